-- What members' transcripts of a question are worth, and what is made of them.
use Rattle.std.proofs.Common.{ℕ, ◌≡◌, ◌∙◌, ◌<◌, ◌≤◌, ◌^◌, ◌⊎◌, inl, inr, refl, sym, ap, subst, arith, Bool, Option, Some, None, List, [], ◌∷◌, ◌++◌, append_assoc, append-nil, option_map, unwrap_or}
use Rattle.std.proofs.lemmas.Bool.{cases_lt}
use Rattle.std.specs.Io.KnownBytes.{Appends, Keeps}
use Rattle.terms_prelude.specs.Terms.{Size}
use Rattle.client.specs.Readings.{HasNoDecision, IsDecision, Reads, size_of}
use Rattle.client.specs.declared.reading.Reading.{Reading}
use Rattle.transcripts.specs.Audits.{Answers, IsAudited}
use Rattle.transcripts.specs.Reading.{IsBadAt, Reads as ReadsText, Shown}
use Rattle.commands.proofs.Heads.{shown_is}
use Rattle.commands.specs.Surveys.{IsTranscriptOf, bit_number}
use Rattle.asking.specs.Hearsay.{AreProven, HasMore, IsFirstProof, IsProofOf, IsWorthOf, IsWorthOfReply, SentNoProof, TakesProofs, bit_in, shown_of, worth_by}
use Rattle.asking.specs.Polls.{HasStatusFor, Takes}
use Rattle.asking.specs.declared.board.News.{News}
use Rattle.asking.specs.declared.hearsay.Worth.{Worth}
use Rattle.asking.specs.declared.hearsay.Worth.TheVariants.{Nothing, Transcript, Proof}

-- the worth of a text that begins as a transcript, by what its audit ends with
pub worth_is : (size : Size) (text : List ℕ) (question : ℕ) (bit : Bool) (status : ℕ) (old new : Option (List ℕ)) → size.questions ≤ 4096 → question < 2 ^ 16
    → IsTranscriptOf question (bit_number bit) text → IsAudited size text status old new → IsWorthOfReply size question (Some text) (worth_by status bit)
worth_is size text question bit status old new few small begins (shown, reads, inl (proof, is, written)) =
    let asked = reads.fits.asked in
    let most : 4096 < 2 ^ 64 = omega arith in
    let wide : 2 ^ 16 ≤ 2 ^ 64 = omega arith in
    let one = shown_is size text shown question bit (omega (arith, asked, few, most)) (omega (arith, small, wide)) reads begins in
    let same : shown ≡ shown_of question bit shown.pairs = λ i. record { question = one.0 i; bit = one.1 i; pairs = shown.pairs } in
    let proven : IsProofOf size question bit text = record {
      pairs = shown.pairs;
      reads = subst (λ (s : Shown). ReadsText size text s) same reads;
      yes = subst (λ (s : Shown). Answers size s 0 None None) same (inl (proof, refl, tt));
    } in
    subst (λ (s : ℕ). IsWorthOfReply size question (Some text) (worth_by s bit)) (sym is) proven
worth_is size text question bit status old new few small begins (shown, reads, inr (none, is, written)) =
    subst (λ (s : ℕ). IsWorthOfReply size question (Some text) (worth_by s bit)) (sym is) ((bit, begins), inl (shown, reads, inr (none, refl, tt)))

-- a reply that is proof came
pub sent_of : (size : Size) (question : ℕ) (bit : Bool) (sent : Option (List ℕ)) → IsWorthOfReply size question sent (Proof bit)
    → (reply : List ℕ) × (sent ≡ Some reply) × IsProofOf size question bit reply
sent_of size question bit None is = absurd (never bit is)
  where
    never : (b : Bool) → Proof b ≡ Nothing → ⊥
    never b e = cc e
sent_of size question bit (Some reply) is = (reply, refl, is)

-- what is printed where a member's reply is proof
pub printed_first : (size : Size) (question : ℕ) (bit : Bool) (one : News) (others : List News) (old new : Option (List ℕ)) → IsWorthOf size question one (Proof bit)
    → ((reply : List ℕ) → option_map (λ sent. sent.items) one.reply ≡ Some reply → Appends old new reply)
    → (reply : List ℕ) × IsFirstProof size question (one ∷ others) reply × Appends old new reply
printed_first size question bit one others old new is print =
    let sent = sent_of size question bit (option_map (λ sent. sent.items) one.reply) is in
    (sent.0, inl (bit, sent.1, sent.2), print sent.0 sent.1)

-- no news brings no proof
pub taken_none : (size : Size) (question : ℕ) (old : Reading) → TakesProofs size question [] old old
taken_none size question old = record {
  words = [];
  proven = refl;
  taken = λ before reads. subst (λ (w : List (ℕ × Bool)). Reads old w) (sym (append-nil before)) reads;
  size_is = refl;
}

module _ (size : Size) (question : ℕ) (one : News) (others : List News) (old mid new : Reading) where
  -- who proved nothing, or is no member, changes nothing
  skipped : SentNoProof size question one ⊎ ((size_of old).n ≤ one.member) → mid ≡ old → TakesProofs size question others mid new
      → TakesProofs size question (one ∷ others) old new
  skipped why same rest = record {
    words = rest.words;
    proven = inr (why, subst (λ (r : Reading). AreProven size question (size_of r).n others rest.words) same rest.proven);
    taken = λ before reads. rest.taken before (subst (λ (r : Reading). Reads r before) (sym same) reads);
    size_is = rest.size_is ∙ ap size_of same;
  }

  proved : (bit : Bool) → IsWorthOf size question one (Proof bit) → Takes old one.member (Some bit) mid → TakesProofs size question others mid new
      → TakesProofs size question (one ∷ others) old new
  proved bit is takes rest = step (cases_lt one.member (size_of old).n)
    where
      step : (one.member < (size_of old).n) ⊎ ((size_of old).n ≤ one.member) → TakesProofs size question (one ∷ others) old new
      step (inr far) = skipped (inr far) (takes.strangers far) rest
      step (inl less) = record {
        words = (one.member, bit) ∷ rest.words;
        proven = inl (bit, rest.words, is, less, subst (λ (s : Size). AreProven size question s.n others rest.words) takes.size rest.proven, refl);
        taken = λ before reads. subst (λ (w : List (ℕ × Bool)). Reads new w) (append_assoc before ((one.member, bit) ∷ []) rest.words)
            (rest.taken (before ++ (one.member, bit) ∷ []) (takes.told bit before refl less reads));
        size_is = rest.size_is ∙ takes.size;
      }

  -- one member's reply, and the others'
  pub taken_more : (worth : Worth) → IsWorthOf size question one worth → Takes old one.member (bit_in worth) mid → TakesProofs size question others mid new
      → TakesProofs size question (one ∷ others) old new
  taken_more Nothing is takes rest = skipped (inl (inl is)) (takes.nothing refl) rest
  taken_more Transcript is takes rest = skipped (inl (inr is)) (takes.nothing refl) rest
  taken_more (Proof bit) is takes rest = proved bit is takes rest

-- a reading that heard nothing has its words
pub more_none : (old : Reading) → HasMore old old
more_none old = record {
  more = λ before reads. ([], subst (λ (w : List (ℕ × Bool)). Reads old w) (sym (append-nil before)) reads);
  size_is = refl;
}

-- and one that took proofs has more
pub more_taken : (size : Size) (question : ℕ) (news : List News) (old mid new : Reading) → HasMore old mid → TakesProofs size question news mid new → HasMore old new
more_taken size question news old mid new has takes = record {
  more = λ before reads.
      let first = has.more before reads in
      (first.0 ++ takes.words, subst (λ (w : List (ℕ × Bool)). Reads new w) (append_assoc before first.0 takes.words) (takes.taken (before ++ first.0) first.1));
  size_is = takes.size_is ∙ has.size_is;
}

-- the status of a verdict is that of the words
pub status_is : {A B : Type 0} (size : Size) (words : List (ℕ × Bool)) (status : ℕ)
    → ((status ≡ 0) × ((bit : Bool) × IsDecision size words bit) × A) ⊎ ((status ≡ 1) × HasNoDecision size words × B) → HasStatusFor size words status
status_is size words status (inl (is, decided, written)) = inl (is, decided.0, decided.1)
status_is size words status (inr (is, none, written)) = inr (is, none)

-- a decision stays one, whatever is told later
pub stays : (size : Size) (words more : List (ℕ × Bool)) (status : ℕ) → status ≡ 0 → HasStatusFor size words status → HasStatusFor size (words ++ more) status
stays size words more status zero_is (inr (is, none)) = absurd (omega (arith, is, zero_is))
stays size words more status zero_is (inl (is, bit, decides)) = inl (
  is,
  bit,
  record {
    front = decides.front;
    rest = decides.rest ++ more;
    whole = ap (λ (w : List (ℕ × Bool)). w ++ more) decides.whole ∙ append_assoc decides.front decides.rest more;
    enough = decides.enough;
    first = decides.first;
  },
)

-- what a reading has after both halves of an audit
pub has_told : (old mid new : Reading) (before : List (ℕ × Bool)) (status : ℕ) → status ≡ 0 → HasMore old mid → HasMore mid new → Reads old before
    → ((words : List (ℕ × Bool)) → Reads mid words → HasStatusFor (size_of mid) words status)
    → (more : List (ℕ × Bool)) × Reads new (before ++ more) × HasStatusFor (size_of old) (before ++ more) status
has_told old mid new before status zero_is first second reads told =
    let one = first.more before reads in
    let two = second.more (before ++ one.0) one.1 in
    let is = subst (λ (s : Size). HasStatusFor s (before ++ one.0) status) first.size_is (told (before ++ one.0) one.1) in (
      one.0 ++ two.0,
      subst (λ (w : List (ℕ × Bool)). Reads new w) (append_assoc before one.0 two.0) two.1,
      subst (λ (w : List (ℕ × Bool)). HasStatusFor (size_of old) w status) (append_assoc before one.0 two.0) (stays (size_of old) (before ++ one.0) two.0 status zero_is is),
    )

-- the bit that is proved is that of the worth
pub proof_from : (size : Size) (question : ℕ) (one : News) (worth : Worth) (bit : Bool) → ◌≡◌ {A = Option Bool} (Some bit) (bit_in worth) → IsWorthOf size question one worth
    → IsWorthOf size question one (Proof bit)
proof_from size question one Nothing bit e is = absurd (cc e)
proof_from size question one Transcript bit e is = absurd (cc e)
proof_from size question one (Proof b) bit e is = subst (λ (d : Bool). IsWorthOf size question one (Proof d)) (sym (ap (λ (o : Option Bool). unwrap_or o bit) e)) is

-- where none is proved, no proof was sent
pub none_from : (size : Size) (question : ℕ) (one : News) (worth : Worth) → ◌≡◌ {A = Option Bool} None (bit_in worth) → IsWorthOf size question one worth
    → SentNoProof size question one
none_from size question one Nothing e is = inl is
none_from size question one Transcript e is = inr is
none_from size question one (Proof b) e is = absurd (cc e)

pub keeps_same : (old new : Option (List ℕ)) → new ≡ old → Keeps old new
keeps_same old new is = subst (λ (known : Option (List ℕ)). Keeps old known) (sym is) (itself old)
  where
    itself : (known : Option (List ℕ)) → Keeps known known
    itself None = tt
    itself (Some bytes) = refl
