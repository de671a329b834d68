-- What a link gives of what it is fed.
use Rattle.std.proofs.Common.{◌≡◌, ◌≤◌, ◌+◌, ◌<◌, ℕ, List, [], ◌∷◌, ◌++◌, length, get_or, take, refl, sym, ap, subst, ◌∙◌, append-nil, arith}
use Rattle.std.specs.List.{AllByRecursion}
use Rattle.std.proofs.lemmas.List.{take_more}
use Rattle.std.proofs.lemmas.Grind.{flat_map-append}
use Rattle.terms_prelude.specs.Terms.{Size, Statement, IsSize, IsWellFormed}
use Rattle.wire.specs.declared.message.Message.{Message}
use Rattle.wire.specs.declared.message.Message.TheVariants as message
use Rattle.wire.specs.Words.{frame_bytes, Fits, End, Rest, Feeds}
use Rattle.wire.proofs.Cutting.{written_is_fed}
use Rattle.sim.specs.Links.{message_of, statements_in, statements_of}

-- one message more
pub statements_more : (ms : List Message) (i : ℕ) (m : Message) (old new : List Statement) → i < length ms → m ≡ get_or ms i m
    → old ≡ statements_in (take i ms) → new ≡ old ++ statements_of m → new ≡ statements_in (take (i + 1) ms)
statements_more ms i m old new l at before more =
    more
    ∙ ap (λ (l : List Statement). l ++ statements_of m) before
    ∙ ap (λ (l : List Statement). statements_in (take i ms) ++ l) (sym (append-nil (statements_of m)))
    ∙ sym (flat_map-append statements_of (take i ms) (m ∷ []))
    ∙ ap (λ (x : Message). statements_in (take i ms ++ x ∷ [])) at
    ∙ ap statements_in (sym (take_more ms i m l))

-- the frame of a message gives that message, where nothing was held before
pub arrives : (size : Size) (m : Message) (end last : End) (messages : List Message) → IsSize size → Fits size m
    → end ≡ Rest [] → Feeds size end (frame_bytes m) [] messages last → (messages ≡ m ∷ []) × (last ≡ Rest [])
arrives size m end last messages lawful fits e feeds =
    let fed : Feeds size (Rest []) (frame_bytes m) [] messages last =
    subst (λ (x : End). Feeds size x (frame_bytes m) [] messages last) e feeds in
    written_is_fed size (m ∷ []) [] messages (frame_bytes m ∷ []) last lawful (fits, tt) refl
    (messages, last, fed, (refl, refl))

-- statements that go together fit
pub together_fit : (size : Size) (part : List Statement) → 1 ≤ length part → length part ≤ 99 → AllByRecursion (IsWellFormed size) part → Fits size (message_of part)
together_fit size [] some most each = absurd (omega (arith, some))
together_fit size (s ∷ []) some most each = each.0
together_fit size (s ∷ next ∷ more) some most each =
    record { count = record { least = omega arith; most = most }; each = each }

-- the frame of statements that go together gives their message, where nothing was held before
pub part_arrives : (size : Size) (part : List Statement) (m : Message) (end last : End) (bytes : List ℕ) (messages : List Message) → 1 ≤ length part → length part ≤ 99
    → m ≡ message_of part → bytes ≡ frame_bytes m → IsSize size → AllByRecursion (IsWellFormed size) part
    → end ≡ Rest [] → Feeds size end bytes [] messages last → (messages ≡ message_of part ∷ []) × (last ≡ Rest [])
part_arrives size part m end last bytes messages some most is spelled lawful well e feeds =
    arrives size (message_of part) end last messages lawful (together_fit size part some most well) e
    (subst (λ (b : List ℕ). Feeds size end b [] messages last) (spelled ∙ ap frame_bytes is) feeds)

-- and are what is alone among messages that are theirs
pub together_alone : (part alone : List Statement) (messages : List Message) → 1 ≤ length part → messages ≡ message_of part ∷ []
    → ((s : Statement) → messages ≡ message.Statement s ∷ [] → alone ≡ s ∷ [])
    → ((many : List Statement) → messages ≡ message.Statements many ∷ [] → alone ≡ many) → alone ≡ part
together_alone [] alone messages some e one several = absurd (omega (arith, some))
together_alone (s ∷ []) alone messages some e one several = one s e
together_alone (s ∷ next ∷ more) alone messages some e one several = several (s ∷ next ∷ more) e

-- what holds of each of two lists holds of both
all_joined : (P : Statement → Type 0) (xs ys : List Statement) → AllByRecursion P xs → AllByRecursion P ys → AllByRecursion P (xs ++ ys)
all_joined P [] ys h k = k
all_joined P (x ∷ xs) ys h k = (h.0, all_joined P xs ys h.1 k)

-- each statement of a message that fits is well formed
formed_of : (size : Size) (m : Message) → Fits size m → AllByRecursion (IsWellFormed size) (statements_of m)
formed_of size (message.Statement s) fits = (fits, tt)
formed_of size (message.Statements many) fits = fits.each
formed_of size message.Idle fits = tt
formed_of size (message.Hello version cluster its from to) fits = tt
formed_of size (message.Welcome next) fits = tt

-- each statement among messages that fit is well formed
pub all_formed : (size : Size) (ms : List Message) → AllByRecursion (Fits size) ms → AllByRecursion (IsWellFormed size) (statements_in ms)
all_formed size [] fits = tt
all_formed size (m ∷ ms) fits =
    all_joined (IsWellFormed size) (statements_of m) (statements_in ms) (formed_of size m fits.0) (all_formed size ms fits.1)
