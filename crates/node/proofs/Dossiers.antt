-- What a dossier gives is what its book has.
use Rattle.std.proofs.Common.{◌≡◌, ℕ, refl, sym, ap, ◌∙◌, subst, List, Bool, Some, Result, Ok, Err, IfOk, IfErr}
use Rattle.terms_prelude.specs.Terms.{Size, Statement}
use Rattle.questions.specs.Audits.{IsProof}
use Rattle.node.specs.declared.transcript.Transcript.{Transcript}
use Rattle.node.specs.declared.transcript.TranscriptFault.{TranscriptFault}
use Rattle.node.specs.declared.transcript.TranscriptFault.TheVariants.{NoSuchQuestion, Undecided, Thin, Memory}
use Rattle.node.specs.Transcripts.{HasNoDossier}
use Rattle.node.specs.Words.{BookView, DossierView, HasNoTranscript, IsDossier, IsHeardProof, IsTranscript, ShowsNothing}

-- proof by other names
named : (size other : Size) (q p : ℕ) (bit v : Bool) (heard pairs : List (ℕ × Statement)) → size ≡ other → q ≡ p → bit ≡ v → heard ≡ pairs → IsProof size q bit heard → IsProof other p v pairs
named size other q p bit v heard pairs a b c d proof =
    subst (λ (s : Size). IsProof s p v pairs) a
    (subst (λ (n : ℕ). IsProof size n v pairs) b
    (subst (λ (x : Bool). IsProof size q x pairs) c
    (subst (λ (l : List (ℕ × Statement)). IsProof size q bit l) d proof)))

pub given : {D : Type 0} (b : BookView D) (q : ℕ) (d : DossierView) (t : Transcript) → IsDossier b q d
    → t.bit ≡ d.bit → t.heard.items ≡ d.heard → IsProof d.size d.question d.bit d.heard → IsTranscript b q t
given b q d t is bit heard proof = record {
  decided = is.decided ∙ ap Some (sym bit);
  heard = heard ∙ is.heard;
  proof = named d.size _ d.question q d.bit t.bit d.heard t.heard.items is.size_is is.question_is (sym bit) (sym heard) proof;
}

pub withheld : {D : Type 0} (b : BookView D) (q : ℕ) (d : DossierView) (f : TranscriptFault) → IsDossier b q d → ShowsNothing d f → HasNoTranscript b q f
withheld b q d NoSuchQuestion is why = absurd why
withheld b q d Undecided is why = absurd why
withheld b q d Thin is why =
    let none : IsHeardProof b q d.bit → ⊥ = λ proof. why (named _ d.size q d.question d.bit d.bit _ d.heard (sym is.size_is) (sym is.question_is) refl (sym is.heard) proof) in
    (d.bit, is.decided, none, λ before. none (is.shows before))
withheld b q d Memory is why = (d.bit, is.decided)

-- the transcript that a book's dossier gives is the book's, and where it gives none there is none
pub transcript_given : {D : Type 0} (b : BookView D) (q : ℕ) (d : DossierView) (r : Result Transcript TranscriptFault) → IsDossier b q d
    → IfOk r (λ t. t.bit ≡ d.bit) → IfOk r (λ t. t.heard.items ≡ d.heard) → IfOk r (λ t. IsProof d.size d.question d.bit d.heard) → IfOk r (IsTranscript b q)
transcript_given b q d (Ok t) is bit heard proof = given b q d t is bit heard proof
transcript_given b q d (Err f) is bit heard proof = tt

pub transcript_withheld : {D : Type 0} (b : BookView D) (q : ℕ) (d : DossierView) (r : Result Transcript TranscriptFault) → IsDossier b q d
    → IfErr r (ShowsNothing d) → IfErr r (HasNoTranscript b q)
transcript_withheld b q d (Ok t) is why = tt
transcript_withheld b q d (Err f) is why = withheld b q d f is why

pub none_without : {D : Type 0} (b : BookView D) (q : ℕ) (f : TranscriptFault) → HasNoDossier b q f → HasNoTranscript b q f
none_without b q NoSuchQuestion why = why
none_without b q Undecided why = why
none_without b q Thin why = absurd why
none_without b q Memory why = why
