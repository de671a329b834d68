-- What a transcript begins with.
use Rattle.std.proofs.Common.{ℕ, ◌≡◌, ◌<◌, ◌≤◌, ◌^◌, ◌∙◌, Bool, true, false, refl, sym, ap, subst, arith, Option, Some, None, List, [], ◌∷◌, ◌++◌, append_assoc, append-nil, codes, drop, eqb, get_or, length, take}
use Rattle.std.specs.Cmp.Lexicographic.{pointwise}
use Rattle.std.specs.Fmt.{decimal}
use Rattle.std.specs.List.{position_from}
use Rattle.std.proofs.lemmas.Fmt.{decimal_injective}
use Rattle.std.proofs.lemmas.Bool.Decides.{Decides-eqb}
use Rattle.std.proofs.lemmas.List.{take-append-drop}
use Rattle.std.proofs.lemmas.Slice.Eq.{starts_is}
use Rattle.terms_prelude.specs.Terms.{IsSize, Size, Statement}
use Rattle.transcripts.specs.Audits.{Answers}
use Rattle.transcripts.specs.Lines.{bit_words, head_line}
use Rattle.transcripts.specs.Reading.{IsBadAt, IsBadNext, Reads, Shown, is_end, lines_shown}
use Rattle.transcripts.proofs.Beginnings.{spaceless_digits}
use Rattle.transcripts.proofs.Spelled.{cut_first, cut_is, only_line}
use Rattle.portal.specs.Fetches.{BeginsAs, IsAuditOf, IsSentOf, IsTranscriptOf, audit_status, shown_of, transcript_front}
use Rattle.portal.specs.declared.fetching.Sent.{Sent}

-- the first line of what is shown
abbrev line_of : Shown → List ℕ
line_of shown = head_line shown.question shown.bit (length shown.pairs)

-- a transcript of one line, and any other, begins with its first line
alone : (size : Size) (text : List ℕ) (shown : Shown) → position_from is_end 0 text ≡ None → Reads size text shown
    → (rest : List ℕ) × (text ≡ line_of shown ++ rest)
alone size [] shown none reads = absurd (let no : [] ≡ line_of shown ∷ _ = reads.lines in cc)
alone size (byte ∷ text) shown none reads =
    let is : byte ∷ text ≡ line_of shown = ap (λ (l : List (List ℕ)). get_or l 0 []) (sym (only_line (byte ∷ text) (omega arith) (sym none)) ∙ reads.lines) in
    ([], is ∙ sym (append-nil (line_of shown)))

first_line : (size : Size) (text : List ℕ) (shown : Shown) → Reads size text shown → (rest : List ℕ) × (text ≡ line_of shown ++ rest)
first_line size text shown reads = step (position_from is_end 0 text) refl
  where
    step : (found : Option ℕ) → position_from is_end 0 text ≡ found → (rest : List ℕ) × (text ≡ line_of shown ++ rest)
    step None none = alone size text shown none reads
    step (Some at) there =
        let is : take at text ≡ line_of shown = ap (λ (l : List (List ℕ)). get_or l 0 []) (sym (cut_first at text (sym there)) ∙ reads.lines) in
        (drop at text, sym (take-append-drop at text) ∙ ap (λ (l : List ℕ). l ++ drop at text) is)

-- the parts of a text in two groupings
front_apart : (a d w r : List ℕ) → (a ++ (d ++ 32 ∷ w)) ++ r ≡ a ++ (d ++ 32 ∷ (w ++ r))
front_apart a d w r = append_assoc a (d ++ 32 ∷ w) r ∙ ap (λ (l : List ℕ). a ++ l) (append_assoc d (32 ∷ w) r)

line_apart : (a d w n r : List ℕ) → (a ++ (d ++ 32 ∷ (w ++ n))) ++ r ≡ a ++ (d ++ 32 ∷ (w ++ (n ++ r)))
line_apart a d w n r = front_apart a d (w ++ n) r ∙ ap (λ (l : List ℕ). a ++ (d ++ 32 ∷ l)) (append_assoc w n r)

-- a transcript of a question and a bit begins as one
pub begins : (size : Size) (question : ℕ) (bit : Bool) (text : List ℕ) → IsTranscriptOf size question bit text → BeginsAs question bit text
begins size question bit text is =
    let line = first_line size text (shown_of question bit is.0) is.1 in
    let count = decimal (length is.0) in (
      count ++ line.0,
      line.1 ∙ line_apart (codes "transcript ") (decimal question) (bit_words bit) count line.0
          ∙ sym (front_apart (codes "transcript ") (decimal question) (bit_words bit) (count ++ line.0)),
    )

same_bit : (b d : Bool) (x y : List ℕ) → bit_words b ++ x ≡ bit_words d ++ y → b ≡ d
same_bit true true x y e = refl
same_bit false false x y e = refl
same_bit true false x y e = let f : 49 ≡ 48 = ap (λ (t : List ℕ). get_or t 4 0) e in absurd (omega (arith, f))
same_bit false true x y e = let f : 48 ≡ 49 = ap (λ (t : List ℕ). get_or t 4 0) e in absurd (omega (arith, f))

-- one that begins so is of that question and that bit
names : (size : Size) (question : ℕ) (bit : Bool) (text : List ℕ) (shown : Shown) → question < 2 ^ 64 → shown.question < 2 ^ 64
    → BeginsAs question bit text → Reads size text shown → (shown.question ≡ question) × (shown.bit ≡ bit)
names size question bit text shown small shown_small begins reads =
    let line = first_line size text shown reads in
    let count = decimal (length shown.pairs) in
    let whole : codes "transcript " ++ (decimal shown.question ++ 32 ∷ (bit_words shown.bit ++ (count ++ line.0)))
    ≡ codes "transcript " ++ (decimal question ++ 32 ∷ (bit_words bit ++ begins.0)) =
    sym (line_apart (codes "transcript ") (decimal shown.question) (bit_words shown.bit) count line.0)
    ∙ sym line.1 ∙ begins.1 ∙ front_apart (codes "transcript ") (decimal question) (bit_words bit) begins.0 in
    let words = bit_words bit ++ begins.0 in
    let parts = cut_is (decimal question ++ 32 ∷ words) (decimal shown.question) (bit_words shown.bit ++ (count ++ line.0)) words question small
    (sym (ap (λ (l : List ℕ). drop 11 l) whole)) (spaceless_digits shown.question shown_small) refl in
    (decimal_injective shown.question question shown_small small parts.0, same_bit shown.bit bit (count ++ line.0) begins.0 parts.1)

-- a text is tested for its beginning
pub starts : (question : ℕ) (bit : Bool) (text head : List ℕ) (test : Bool) → head ≡ transcript_front question bit
    → test ≡ pointwise eqb head (take (length head) text)
    → (test ≡ true → BeginsAs question bit text) × (BeginsAs question bit text → test ≡ true)
starts question bit text head test is tests =
    let both = starts_is Decides-eqb text head test tests in (
      (λ good. (drop (length head) text, both.0 good ∙ ap (λ (l : List ℕ). l ++ drop (length head) text) is)),
      (λ begins. both.1 begins.0 (begins.1 ∙ ap (λ (l : List ℕ). l ++ begins.0) (sym is))),
    )

-- a text with a bad line is no transcript
pub no_transcript : (size : Size) (text : List ℕ) (number : ℕ) → IsBadAt size text number → (shown : Shown) → Reads size text shown → ⊥
no_transcript size text number bad shown reads = step bad.others bad.bad (sym reads.lines ∙ bad.lines)
  where
    step : (others : List (List ℕ)) → IsBadNext size bad.good others → lines_shown shown ≡ bad.good ++ others → ⊥
    step [] none whole = none shown reads.fits (whole ∙ append-nil bad.good)
    step (line ∷ others) none whole =
        none (record { shown = shown; fits = reads.fits; more = others; whole = whole ∙ sym (append_assoc bad.good (line ∷ []) others) })

-- what begins so and is audited is what is told of it
pub is_sent : (size : Size) (question : ℕ) (bit : Bool) (sent : Sent) → IsSize size → question < 2 ^ 64
    → BeginsAs question bit sent.text.items → IsAuditOf size sent.text.items (Some sent.proven) → IsSentOf size question bit sent
is_sent size question bit sent lawful small begins audit =
    let reads = audit.1 in
    let few : audit.0.question < 2 ^ 64 =
    let asked = reads.fits.asked in let most = lawful.few in let big : 4096 < 2 ^ 64 = omega arith in omega (arith, asked, most, big) in
    let same = names size question bit sent.text.items audit.0 small few begins reads in
    let one : audit.0 ≡ shown_of question bit audit.0.pairs = λ i. record { question = same.0 i; bit = same.1 i; pairs = audit.0.pairs } in
    record {
      pairs = audit.0.pairs;
      reads = subst (λ (shown : Shown). Reads size sent.text.items shown) one reads;
      audited = subst (λ (shown : Shown). Answers size shown (audit_status sent.proven) None None) one audit.2;
    }

-- the same of a text that is tested first and audited then
pub sent_is : (size : Size) (question : ℕ) (bit : Bool) (text one two : List ℕ) (test : Bool) (found : Option Bool) (sent : Sent)
    → IsSize size → question < 2 ^ 64 → one ≡ text → two ≡ text → (test ≡ true → BeginsAs question bit one) → test ≡ true
    → IsAuditOf size two found → found ≡ Some sent.proven → sent.text.items ≡ text → IsSentOf size question bit sent
sent_is size question bit text one two test found sent lawful small is also begins good audit says same =
    is_sent size question bit sent lawful small
    (subst (λ (l : List ℕ). BeginsAs question bit l) (is ∙ sym same) (begins good))
    (subst (λ (l : List ℕ). IsAuditOf size l (Some sent.proven)) (also ∙ sym same) (subst (λ (o : Option Bool). IsAuditOf size two o) says audit))

pub none_begun : (size : Size) (question : ℕ) (bit : Bool) (text one : List ℕ) (test : Bool) → one ≡ text
    → (BeginsAs question bit one → test ≡ true) → test ≡ false → IsTranscriptOf size question bit text → ⊥
none_begun size question bit text one test is tests bad shown =
    let good : test ≡ true = tests (subst (λ (l : List ℕ). BeginsAs question bit l) (sym is) (begins size question bit text shown)) in
    absurd (let no : true ≡ false = sym good ∙ bad in cc)

pub none_read : (size : Size) (question : ℕ) (bit : Bool) (text two : List ℕ) (found : Option Bool) → two ≡ text → IsAuditOf size two found → found ≡ None
    → IsTranscriptOf size question bit text → ⊥
none_read size question bit text two found also audit says shown =
    subst (λ (o : Option Bool). IsAuditOf size two o) says audit (shown_of question bit shown.0)
    (subst (λ (l : List ℕ). Reads size l (shown_of question bit shown.0)) (sym also) shown.1)
