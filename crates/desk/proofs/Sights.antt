-- What the hub's book told is told of it in its hub's name.
use Rattle.std.proofs.Common.{◌≡◌, ℕ, ◌∙◌, sym, ap, subst, List, Bool, Option, Some, None, Result, Ok, Err, IfOk, IfErr}
use Rattle.terms_prelude.specs.Terms.{Header, Record}
use Rattle.member.specs.Words.{member_is_stopped}
use Rattle.node.specs.declared.transcript.Transcript.{Transcript as Text}
use Rattle.node.specs.Transcripts.{DossierView, IsDossier, WereHeard, AreFirstsOn}
use Rattle.node.specs.Words.{Group, IsBookAt, heard_on}
use Rattle.node.specs.Views.{BookView}
use Rattle.node.proofs.Hearsay.{are_firsts, were_heard}
use Rattle.desk.specs.declared.reply.Reply.{Reply}
use Rattle.desk.specs.declared.reply.Reply.TheVariants.{Transcript}
use Rattle.desk.specs.Answers.{IsDossierReply, IsTranscriptReply, MayBeShown}
use Rattle.desk.specs.Sessions.{IsTranscriptTold}
use Rattle.desk.proofs.Dossiers.{replied_of}

-- a book's transcript tells just what its account has
module _ {D : Type 0} (header : Header) (opening : List Record) (log : List Group) (b : BookView D) (at : IsBookAt header opening log b) (q : ℕ) (reply : Reply) (is : IsTranscriptReply b q reply) where
  shown : (asked : ℕ) (text : Text) → reply ≡ Transcript asked text → IsTranscriptReply b q (Transcript asked text)
  shown asked text same = subst (λ (r : Reply). IsTranscriptReply b q r) same is

  heard : (asked : ℕ) (text : Text) → reply ≡ Transcript asked text → WereHeard log text.heard.items
  heard asked text same =
      let s = shown asked text same in
      subst (λ (l : List Group). WereHeard l text.heard.items) at.log_is
      (subst (λ pairs. WereHeard b.log pairs) (sym s.2.heard) (were_heard b.log b.history (at.of_hub.tied s.1.is_up) q))

  firsts : (asked : ℕ) (text : Text) → reply ≡ Transcript asked text → AreFirstsOn log q text.heard.items
  firsts asked text same =
      let s = shown asked text same in
      subst (λ (l : List Group). AreFirstsOn l q text.heard.items) at.log_is
      (subst (λ pairs. AreFirstsOn b.log q pairs) (sym s.2.heard) (are_firsts b.log b.history (at.of_hub.tied s.1.is_up) q))

  pub told_at : IsTranscriptTold D header opening log q reply
  told_at = record { book = b; book_is = at; told = is; heard = heard; firsts = firsts }

-- the same in the name of the hub
pub told_of : {D : Type 0} (named header : Header) (opening : List Record) (log : List Group) (b : BookView D) (q : ℕ) (asked : Result DossierView Reply) (reply : Reply) → named ≡ header
    → IsBookAt named opening log b → IfOk asked (λ (d : DossierView). MayBeShown b q × IsDossier b q d) → IfErr asked (IsTranscriptReply b q)
    → IfOk asked (λ (d : DossierView). IsDossierReply d reply) → IfErr asked (λ (r : Reply). reply ≡ r) → IsTranscriptTold D header opening log q reply
told_of {D} named header opening log b q asked reply same at ok err by_ok by_err =
    subst (λ (h : Header). IsTranscriptTold D h opening log q reply) same (told_at named opening log b at q reply (replied_of b q asked reply ok err by_ok by_err))
