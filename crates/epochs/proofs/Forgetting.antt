-- What is forgotten, and what stays.
use Rattle.std.proofs.Common.{ℕ, ◌≡◌, ◌<◌, suc, true, false, not, List, length, get_or, sym, ap, ap₂, ◌∙◌, arith}
use Rattle.std.specs.List.{zip, remove}
use Rattle.std.proofs.Math.Bool.{not-not}
use Rattle.std.proofs.lemmas.Slice.Zip.{get_or-zip, length-zip}
use Rattle.chain.specs.declared.opening.Ask.{Ask}
use Rattle.epochs.specs.declared.asks.Gone.{Gone}
use Rattle.epochs.specs.Asking.{tested_at}
use Rattle.epochs.specs.Asks.{stays}
use Rattle.epochs.proofs.Standing.{tested_at-gone, tested_at-kept, passed_from, passed_from-tested, zip-remove}

found : (asks : List Ask) (heard : List ℕ) (at : ℕ) → at < length asks → length heard ≡ length asks → (ask : Ask) (second : ℕ) → ask ≡ get_or asks at ask → second ≡ get_or heard at second
    → get_or (zip asks heard) at (ask, second) ≡ (ask, second)
found asks heard at within paired ask second first last =
    get_or-zip asks heard at (ask, second) within (omega (arith, within, paired)) ∙ ap₂ (λ (a : Ask) (b : ℕ). (a, b)) (sym first) (sym last)

inside : (asks : List Ask) (heard : List ℕ) (at : ℕ) → at < length asks → length heard ≡ length asks → at < length (zip asks heard)
inside asks heard at within paired = let size = length-zip asks heard in omega (arith, within, paired, size)

pub forgotten : (asks : List Ask) (heard : List ℕ) (at : ℕ) → at < length asks → length heard ≡ length asks → (ask : Ask) (second : ℕ) → ask ≡ get_or asks at ask → second ≡ get_or heard at second
    → (gone : Gone) → not (stays gone (ask, second)) ≡ true → {less : List Ask} {left : List ℕ} → less ≡ remove asks at → left ≡ remove heard at
    → zip less left ≡ tested_at (stays gone) at (zip asks heard)
forgotten asks heard at within paired ask second first last gone goes {less} {left} is is_heard =
    ap₂ zip is is_heard ∙ zip-remove asks heard at paired
    ∙ tested_at-gone (stays gone) at (zip asks heard) (ask, second) (inside asks heard at within paired)
    (ap (stays gone) (found asks heard at within paired ask second first last) ∙ sym (not-not (stays gone (ask, second))) ∙ ap not goes)

pub kept : (asks : List Ask) (heard : List ℕ) (at : ℕ) → at < length asks → length heard ≡ length asks → (ask : Ask) (second : ℕ) → ask ≡ get_or asks at ask → second ≡ get_or heard at second
    → (gone : Gone) → not (stays gone (ask, second)) ≡ false → zip asks heard ≡ tested_at (stays gone) at (zip asks heard)
kept asks heard at within paired ask second first last gone goes =
    tested_at-kept (stays gone) at (zip asks heard) (ask, second) (inside asks heard at within paired)
    (ap (stays gone) (found asks heard at within paired ask second first last) ∙ sym (not-not (stays gone (ask, second))) ∙ ap not goes)

-- one more was looked at
pub one_more : (gone : Gone) (begun before after : List (Ask × ℕ)) (left at : ℕ) → left ≡ suc at → at < length begun → before ≡ passed_from (stays gone) left begun
    → after ≡ tested_at (stays gone) at before → after ≡ passed_from (stays gone) at begun
one_more gone begun before after left at is within so then =
    then ∙ ap (tested_at (stays gone) at) (so ∙ ap (λ n. passed_from (stays gone) n begun) is) ∙ passed_from-tested (stays gone) at begun within
