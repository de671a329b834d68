-- Messages that wait in two lists, of which one is turned.
use Rattle.std.proofs.Common.{◌≡◌, ℕ, List, [], ◌∷◌, ◌++◌, reverse, sym, ◌∙◌, ap, append_assoc, Result, Ok, Err, IfOk}
use Rattle.std.proofs.lemmas.List.{reverse-append}
use Rattle.terms_prelude.specs.Terms.{Size}
use Rattle.wire.specs.declared.message.Message.{Message}
use Rattle.wire.specs.Reading.{End, Rest, Broken}
use Rattle.wire.specs.Feeding.{Feeds}

-- the last of the turned list comes first
pub taken_first : (first read left : List Message) (m : Message) → first ≡ left ++ m ∷ [] → reverse first ++ read ≡ m ∷ (reverse left ++ read)
taken_first first read left m is = ap (λ (l : List Message). reverse l ++ read) is ∙ ap (λ (l : List Message). l ++ read) (reverse-append left (m ∷ []))

-- a feeder's call reads the same messages behind others
pub feeds_behind : (size : Size) (end : End) (piece : List ℕ) (front old new : List Message) (next : End) → Feeds size end piece old new next → Feeds size end piece (front ++ old) (front ++ new) next
feeds_behind size (Rest rest) piece front old new next feeds =
    (feeds.0, feeds.1, ap (λ (l : List Message). front ++ l) feeds.2 ∙ sym (append_assoc front old feeds.0))
feeds_behind size (Broken fault) piece front old new next feeds = (ap (λ (l : List Message). front ++ l) feeds.0, feeds.1)

-- what has P has Q
pub if_ok_more : {X E : Type 0} (P Q : X → Type 0) → ((x : X) → P x → Q x) → (r : Result X E) → IfOk r P → IfOk r Q
if_ok_more P Q more (Ok x) has = more x has
if_ok_more P Q more (Err e) has = has
