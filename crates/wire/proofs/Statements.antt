-- The seven bytes of a statement, behind any front of a text that a statement may follow.
use Rattle.std.proofs.Common.{ℕ, zero, suc, ◌≡◌, ◌+◌, ◌-◌, ◌*◌, ◌/◌, ◌%◌, ◌<◌, ◌≤◌, true, false, cond, eqb, List, [], ◌∷◌, ◌++◌, length, get_or, take, drop, Result, refl, sym, ap, subst, ◌∙◌, append_assoc, arith, take-append-drop, eqb-true}
use Rattle.std.proofs.Math.Seq.{drop-cons}
use Rattle.std.proofs.lemmas.Bool.{cond_both, eqb-false}
use Rattle.terms_prelude.specs.Terms.{Kind, Initial, Echo, Ready, Value, Zero, One, SureZero, SureOne, Unsure, Size, Statement, IsSize, FitsStep, value_code, new_place, new_statement, IsWellFormed}
use Rattle.wire.specs.Words.{Stop, WireFault, BadKind, BadPlace, BadValue, AreBytes, BeginsFrame, IsPartial, PrecedesStatement, statement_fault, ◌>>=◌, byte_at, most_low, least_value, most_value, spelled_at}
use Rattle.statement_codec.specs.Statements.{kind_byte, statement_bytes, kind_from, value_from}
use Rattle.wire.proofs.Values.{value_fits}
use Rattle.wire.proofs.Telling.{TellsOf, In, step}

-- the bytes of a statement, each in its range
pub record Cells (size : Size) (k h l o r s v : ℕ) : Type 0 where
  pub kind : In 1 k 3
  pub high : In 0 h ((size.questions - 1) / 256)
  pub low : In 0 l (most_low (size.questions - 1) h)
  pub origin : In 0 o (size.n - 1)
  pub round : In 1 r 32
  pub step : In 1 s 3
  pub value : In (least_value s) v (most_value s)

-- the statement of these bytes
abbrev pub made : (k h l o r s v : ℕ) → Statement
made k h l o r s v = new_statement (kind_from k) (new_place (256 * h + l) o r s) (value_from v)

-- the byte of the kind of a byte
kind_back : (k : ℕ) → In 1 k 3 → kind_byte (kind_from k) ≡ k
kind_back zero h = absurd (omega arith)
kind_back (suc zero) h = refl
kind_back (suc (suc zero)) h = refl
kind_back (suc (suc (suc zero))) h = refl
kind_back (suc (suc (suc (suc k)))) h = absurd (omega arith)

-- the byte of the value of a byte
value_back : (v : ℕ) → v ≤ 4 → value_code (value_from v) ≡ v
value_back zero h = refl
value_back (suc zero) h = refl
value_back (suc (suc zero)) h = refl
value_back (suc (suc (suc zero))) h = refl
value_back (suc (suc (suc (suc zero)))) h = refl
value_back (suc (suc (suc (suc (suc v))))) h = absurd (omega arith)

-- a value has a byte of 4 at most
most_four : (s : ℕ) → most_value s ≤ 4
most_four s = cond_both (eqb s 3) 4 1 (λ x. x ≤ 4) (λ e. omega arith) (λ e. omega arith)

-- each step has a value
least_most : (s : ℕ) → least_value s ≤ most_value s
least_most s = elim (eqb s 3) as (λ v. cond v 2 0 ≤ cond v 4 1) [ true ↦ omega arith | false ↦ omega arith ]

-- the low byte of a question is a byte
low_most : (last h : ℕ) → most_low last h ≤ 255
low_most last h =
    cond_both (eqb h (last / 256)) (last % 256) 255 (λ x. x ≤ 255) (λ e. omega arith) (λ e. omega arith)

-- a question in these ranges is below the bound
below : (q h l : ℕ) → 1 ≤ q → h ≤ (q - 1) / 256 → l ≤ most_low (q - 1) h → 256 * h + l < q
below q h l one high low =
    cond_both (eqb h ((q - 1) / 256)) ((q - 1) % 256) 255 (λ x. l ≤ x → 256 * h + l < q)
    (λ e le. omega (arith, eqb-true h ((q - 1) / 256) e)) (λ e le. omega (arith, eqb-false h ((q - 1) / 256) e)) low

-- it is one of the cluster
pub made_fits : (size : Size) (k h l o r s v : ℕ) → IsSize size → Cells size k h l o r s v
    → IsWellFormed size (made k h l o r s v)
made_fits size k h l o r s v lawful cells = record {
  question = below size.questions h l lawful.asks cells.high.1 cells.low.1;
  origin = omega (arith, cells.origin, lawful.some);
  from_one = cells.round.0;
  to_last = cells.round.1;
  value = value_fits s v cells.step.0 cells.step.1 cells.value.0 cells.value.1;
}

-- its bytes are these
pub made_text : (size : Size) (k h l o r s v : ℕ) → IsSize size → Cells size k h l o r s v
    → statement_bytes (made k h l o r s v) ≡ k ∷ h ∷ l ∷ o ∷ r ∷ s ∷ v ∷ []
made_text size k h l o r s v lawful cells =
    let few : size.questions ≤ 4096 = lawful.few in
    let one : 1 ≤ size.questions = lawful.asks in
    let high : h ≤ (size.questions - 1) / 256 = cells.high.1 in
    let small : l ≤ 255 = omega (arith, cells.low, low_most (size.questions - 1) h) in
    let h_is : (256 * h + l) / 256 % 256 ≡ h = omega arith in
    let l_is : (256 * h + l) % 256 ≡ l = omega arith in
    let four : v ≤ 4 = omega (arith, cells.value, most_four s) in
    rw (kind_back k cells.kind, h_is, l_is, value_back v four) refl

-- bytes behind others, in another order of joining
regroup : (f a d more : List ℕ) (x : ℕ) → (f ++ (a ++ x ∷ d)) ++ more ≡ (f ++ a) ++ x ∷ (d ++ more)
regroup f a d more x =
    ap (λ (t : List ℕ). t ++ more) (sym (append_assoc f a (x ∷ d))) ∙ append_assoc (f ++ a) (x ∷ d) more

-- behind a front that a statement may follow, each front of these bytes begins a text
partial_at : {k h l o r s v : ℕ} (size : Size) (front : List ℕ) → PrecedesStatement size front → IsSize size → Cells size k h l o r s v → (i : ℕ) → i < 7
    → IsPartial size (front ++ take i (k ∷ h ∷ l ∷ o ∷ r ∷ s ∷ v ∷ []))
partial_at {k} {h} {l} {o} {r} {s} {v} size front precedes lawful cells i lt =
    let t : List ℕ = k ∷ h ∷ l ∷ o ∷ r ∷ s ∷ v ∷ [] in
    let cut : t ≡ take i t ++ get_or t i 0 ∷ drop (suc i) t =
    sym (take-append-drop i t) ∙ ap (λ (d : List ℕ). take i t ++ d) (drop-cons t i 0 lt) in
    let b = precedes.begins (made k h l o r s v) (made_fits size k h l o r s v lawful cells) in
    record {
      message = b.message;
      fits = b.fits;
      next = get_or t i 0;
      more = drop (suc i) t ++ b.more;
      whole = b.whole ∙ ap (λ (d : List ℕ). (front ++ d) ++ b.more) (made_text size k h l o r s v lawful cells ∙ cut)
          ∙ regroup front (take i t) (drop (suc i) t) b.more (get_or t i 0);
    }

-- the byte of a kind is in its range
kind_in : (k : Kind) → In 1 (kind_byte k) 3
kind_in Initial = (omega arith, omega arith)
kind_in Echo = (omega arith, omega arith)
kind_in Ready = (omega arith, omega arith)

-- the byte of a value is in the range of its step
value_in : (s : ℕ) (v : Value) → FitsStep s v → In 1 s 3 × In (least_value s) (value_code v) (most_value s)
value_in zero v h = absurd h
value_in (suc zero) Zero h = ((omega arith, omega arith), (omega arith, omega arith))
value_in (suc zero) One h = ((omega arith, omega arith), (omega arith, omega arith))
value_in (suc zero) SureZero h = absurd h
value_in (suc zero) SureOne h = absurd h
value_in (suc zero) Unsure h = absurd h
value_in (suc (suc zero)) Zero h = ((omega arith, omega arith), (omega arith, omega arith))
value_in (suc (suc zero)) One h = ((omega arith, omega arith), (omega arith, omega arith))
value_in (suc (suc zero)) SureZero h = absurd h
value_in (suc (suc zero)) SureOne h = absurd h
value_in (suc (suc zero)) Unsure h = absurd h
value_in (suc (suc (suc zero))) Zero h = absurd h
value_in (suc (suc (suc zero))) One h = absurd h
value_in (suc (suc (suc zero))) SureZero h = ((omega arith, omega arith), (omega arith, omega arith))
value_in (suc (suc (suc zero))) SureOne h = ((omega arith, omega arith), (omega arith, omega arith))
value_in (suc (suc (suc zero))) Unsure h = ((omega arith, omega arith), (omega arith, omega arith))
value_in (suc (suc (suc (suc s)))) v h = absurd h

-- the low byte of a question is in the range behind its high byte
low_in : (bound q : ℕ) → q < bound → bound ≤ 4096 → q % 256 ≤ most_low (bound - 1) (q / 256 % 256)
low_in bound q lt few =
    cond_both (eqb (q / 256 % 256) ((bound - 1) / 256)) ((bound - 1) % 256) 255 (λ x. q % 256 ≤ x)
    (λ e. omega (arith, eqb-true (q / 256 % 256) ((bound - 1) / 256) e)) (λ e. omega arith)

-- the same of the bytes of a list
abbrev CellsOf : Size → List ℕ → Type 0
CellsOf size t =
    Cells size (get_or t 0 0) (get_or t 1 0) (get_or t 2 0) (get_or t 3 0) (get_or t 4 0) (get_or t 5 0) (get_or t 6 0)

-- the bytes of a well formed statement are each in range
cells_of : (size : Size) (s : Statement) → IsSize size → IsWellFormed size s → CellsOf size (statement_bytes s)
cells_of size s lawful well =
    let few : size.questions ≤ 4096 = lawful.few in
    let lt : s.place.question < size.questions = well.question in
    let origin : s.place.origin < size.n = well.origin in
    let v = value_in s.place.step s.value well.value in
    record {
      kind = kind_in s.kind;
      high = (omega arith, omega arith);
      low = (omega arith, low_in size.questions s.place.question lt few);
      origin = (omega arith, omega arith);
      round = (well.from_one, well.to_last);
      step = v.0;
      value = v.1;
    }

-- what begins a statement's bytes behind such a front is each in range, with the bytes that follow
begun : (size : Size) (front c : List ℕ) → PrecedesStatement size front → IsSize size → (b : BeginsFrame size (front ++ c))
    → CellsOf size (c ++ b.more)
begun size front c precedes lawful b =
    let i = precedes.only c b in subst (CellsOf size) (sym i.3) (cells_of size i.0 lawful i.2)

-- the bytes, each in its range
filled : (size : Size) (k h l o r s v : ℕ) → In 1 k 3 → In 0 h ((size.questions - 1) / 256)
    → In 0 l (most_low (size.questions - 1) h) → In 0 o (size.n - 1) → In 1 r 32 → In 1 s 3
    → In (least_value s) v (most_value s) → Cells size k h l o r s v
filled size k h l o r s v a b c d e f g =
    record { kind = a; high = b; low = c; origin = d; round = e; step = f; value = g }

-- 0 is in a range from 0
none : (most : ℕ) → In 0 0 most
none most = (omega arith, omega arith)

-- the least statement's bytes
least_cells : (size : Size) → Cells size 1 0 0 0 1 1 0
least_cells size =
    filled size 1 0 0 0 1 1 0 (omega arith, omega arith) (none _) (none _) (none _) (omega arith, omega arith)
    (omega arith, omega arith) (omega arith, omega arith)

-- the least statement
abbrev pub least : Statement
least = made 1 0 0 0 1 1 0

-- it is one of each cluster
pub least_fits : (size : Size) → IsSize size → IsWellFormed size least
least_fits size lawful = made_fits size 1 0 0 0 1 1 0 lawful (least_cells size)

-- a statement of the cluster was read behind the front, and these bytes are behind it
abbrev pub IsStatementBehind : Size → List ℕ → List ℕ → Statement × List ℕ → Type 0
IsStatementBehind size front bytes x = IsWellFormed size x.0 × (bytes ≡ front ++ (statement_bytes x.0 ++ x.1))

-- one byte of a statement further
step_cell : (size : Size) (front cells : List ℕ) (least most : ℕ) (f : WireFault) (k : ℕ × List ℕ → Result (Statement × List ℕ) Stop) (bytes : List ℕ)
    → PrecedesStatement size front → length cells < 7 → f ≡ statement_fault (length cells)
    → IsPartial size (front ++ cells) → ((b : ℕ) → BeginsFrame size (front ++ (cells ++ b ∷ [])) → In least b most) → AreBytes bytes
    → ((b : ℕ) (rest : List ℕ) → In least b most → AreBytes rest → TellsOf size (IsStatementBehind size front) (front ++ ((cells ++ b ∷ []) ++ rest)) (k (b, rest)))
    → TellsOf size (IsStatementBehind size front) (front ++ (cells ++ bytes)) (byte_at least most f bytes >>= k)
step_cell size front cells least most f k bytes precedes few is partial range fits next =
    let W : List ℕ → Type 0 = λ t. TellsOf size (IsStatementBehind size front) t (byte_at least most f bytes >>= k) in
    let B : List ℕ → Type 0 = λ t. BeginsFrame size t in
    subst W (append_assoc front cells bytes) (step size (IsStatementBehind size front) (front ++ cells) least most f k bytes partial
    (λ b h. range b (subst B (append_assoc front cells (b ∷ [])) h)) (is ∙ sym (precedes.fault cells few)) fits
    (λ b rest i are. let N : List ℕ → Type 0 = λ t. TellsOf size (IsStatementBehind size front) t (k (b, rest)) in
    subst N (sym (append_assoc front (cells ++ b ∷ []) rest) ∙ ap (λ (t : List ℕ). t ++ rest) (sym (append_assoc front cells (b ∷ [])))) (next b rest i are)))

-- a statement behind such a front: each byte is in its range, or it is the fault of its position
pub spelled_tells : (size : Size) (front bytes : List ℕ) → PrecedesStatement size front → IsSize size → AreBytes bytes
    → TellsOf size (IsStatementBehind size front) (front ++ bytes) (spelled_at size bytes)
unfolding spelled_at
spelled_tells size front bytes precedes lawful fits =
    let one3 : In 1 1 3 = (omega arith, omega arith) in
    let one32 : In 1 1 32 = (omega arith, omega arith) in
    let v0 : In (least_value 1) 0 (most_value 1) = (omega arith, omega arith) in
    let bound = (size.questions - 1) / 256 in
    let last = size.n - 1 in
    step_cell size front [] 1 3 BadKind _ bytes precedes (omega arith) refl
    (partial_at size front precedes lawful (least_cells size) 0 (omega arith))
    (λ b i. (begun size front (b ∷ []) precedes lawful i).kind) fits (λ k rest k_in fits2.
    step_cell size front (k ∷ []) 0 bound BadPlace _ rest precedes (omega arith) refl
    (partial_at size front precedes lawful (filled size k 0 0 0 1 1 0 k_in (none _) (none _) (none _) one32 one3 v0) 1 (omega arith))
    (λ b i. (begun size front (k ∷ b ∷ []) precedes lawful i).high) fits2 (λ h rest h_in fits3.
    step_cell size front (k ∷ h ∷ []) 0 (most_low (size.questions - 1) h) BadPlace _ rest precedes (omega arith) refl
    (partial_at size front precedes lawful (filled size k h 0 0 1 1 0 k_in h_in (none _) (none _) one32 one3 v0) 2 (omega arith))
    (λ b i. (begun size front (k ∷ h ∷ b ∷ []) precedes lawful i).low) fits3 (λ l rest l_in fits4.
    step_cell size front (k ∷ h ∷ l ∷ []) 0 last BadPlace _ rest precedes (omega arith) refl
    (partial_at size front precedes lawful (filled size k h l 0 1 1 0 k_in h_in l_in (none _) one32 one3 v0) 3 (omega arith))
    (λ b i. (begun size front (k ∷ h ∷ l ∷ b ∷ []) precedes lawful i).origin) fits4 (λ o rest o_in fits5.
    step_cell size front (k ∷ h ∷ l ∷ o ∷ []) 1 32 BadPlace _ rest precedes (omega arith) refl
    (partial_at size front precedes lawful (filled size k h l o 1 1 0 k_in h_in l_in o_in one32 one3 v0) 4 (omega arith))
    (λ b i. (begun size front (k ∷ h ∷ l ∷ o ∷ b ∷ []) precedes lawful i).round) fits5 (λ r rest r_in fits6.
    step_cell size front (k ∷ h ∷ l ∷ o ∷ r ∷ []) 1 3 BadPlace _ rest precedes (omega arith) refl
    (partial_at size front precedes lawful (filled size k h l o r 1 0 k_in h_in l_in o_in r_in one3 v0) 5 (omega arith))
    (λ b i. (begun size front (k ∷ h ∷ l ∷ o ∷ r ∷ b ∷ []) precedes lawful i).step) fits6 (λ s rest s_in fits7.
    let v_least : In (least_value s) (least_value s) (most_value s) = (omega arith, least_most s) in
    step_cell size front (k ∷ h ∷ l ∷ o ∷ r ∷ s ∷ []) (least_value s) (most_value s) BadValue _ rest precedes (omega arith) refl
    (partial_at size front precedes lawful (filled size k h l o r s (least_value s) k_in h_in l_in o_in r_in s_in v_least) 6 (omega arith))
    (λ b i. (begun size front (k ∷ h ∷ l ∷ o ∷ r ∷ s ∷ b ∷ []) precedes lawful i).value) fits7 (λ v rest v_in fits8.
    let cells = filled size k h l o r s v k_in h_in l_in o_in r_in s_in v_in in
    (made_fits size k h l o r s v lawful cells, ap (λ (t : List ℕ). front ++ (t ++ rest)) (sym (made_text size k h l o r s v lawful cells))))))))))
