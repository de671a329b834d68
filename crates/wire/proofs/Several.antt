-- What all texts have in front, and several statements in one frame.
use Rattle.std.proofs.Common.{ℕ, zero, suc, ◌≡◌, ◌+◌, ◌-◌, ◌*◌, ◌/◌, ◌%◌, ◌<◌, ◌≤◌, true, false, cond, ◌&&◌, eqb, List, [], ◌∷◌, ◌++◌, length, get_or, drop, replicate, Ok, refl, sym, ap, subst, ◌∙◌, ◌⊎◌, inl, inr, append_assoc, arith, append-nil, length-append, eqb-true}
use Rattle.std.proofs.Math.Bool.{or-true}
use Rattle.std.proofs.lemmas.Bool.{and_parts, and_from, or_cases, eq-eqb, ne_eqb}
use Rattle.std.proofs.lemmas.List.{length-replicate, append_cancel_left}
use Rattle.std.proofs.lemmas.List.Concat.{flat_map-append}
use Rattle.std.specs.List.{AllByRecursion}
use Rattle.terms_prelude.specs.Terms.{Size, Statement, IsSize, IsWellFormed}
use Rattle.statement_codec.specs.Statements.{statement_bytes}
use Rattle.wire.specs.Words.{Message, IsCount, FitMany, Fits, frame_bytes, frame_body, statements_bytes, AreBytes, IsPartial, PrecedesStatement, statement_fault, and_more, head_bytes, is_length, is_type, many_at, spelled_at, within}
use Rattle.wire.specs.declared.message.Message.TheVariants as message
use Rattle.wire.specs.declared.message.Head.TheVariants as head
use Rattle.wire.proofs.Telling.{TellsOf, bytes_back, in_range, tells_then, within_from}
use Rattle.wire.proofs.Statements.{IsStatementBehind, least, least_fits, spelled_tells}

-- the byte at a place of equal lists
pub cell : (i : ℕ) (x y : List ℕ) → x ≡ y → get_or x i 0 ≡ get_or y i 0
cell i x y e = ap (λ (t : List ℕ). get_or t i 0) e

-- the first bytes of equal lists
pub first : (a b : ℕ) (x y : List ℕ) → a ∷ x ≡ b ∷ y → a ≡ b
first a b x y e = cell 0 (a ∷ x) (b ∷ y) e

-- each statement has seven bytes
pub statements_long : (many : List Statement) → length (statements_bytes many) ≡ 7 * length many
statements_long [] = refl
statements_long (s ∷ many) = omega (arith, statements_long many, length-append (statement_bytes s) (statements_bytes many))

-- the length of several statements is that of some body
pub many_length : (n c : ℕ) → n ≡ 2 + 7 * c → IsCount c → is_length n ≡ true
many_length n c e few =
    let least : 2 ≤ c = few.least in
    let most : c ≤ 99 = few.most in
    let sevens : (n - 2) % 7 ≡ 0 = omega arith in
    let inner : (within 16 695 n && eqb ((n - 2) % 7) 0) ≡ true =
    and_from _ _ (within_from 16 n 695 (omega arith, omega arith)) (eq-eqb _ _ sevens) in
    rw (inner, or-true (eqb n 9), or-true (eqb n 8), or-true (eqb n 1)) refl

-- the lengths of bodies
pub lengths : (n : ℕ) → is_length n ≡ true → (n ≡ 1) ⊎ ((n ≡ 8) ⊎ ((n ≡ 9) ⊎ ((c : ℕ) × IsCount c × (n ≡ 2 + 7 * c))))
lengths n e = elim (or_cases _ _ e) [
  | inl one ↦ inl (eqb-true n 1 one)
  | inr more ↦ elim (or_cases _ _ more) [
    | inl eight ↦ inr (inl (eqb-true n 8 eight))
    | inr others ↦ elim (or_cases _ _ others) [
      | inl nine ↦ inr (inr (inl (eqb-true n 9 nine)))
      | inr last ↦
          let p = and_parts _ _ last in
          let r = in_range 16 n 695 p.0 in
          let sevens : (n - 2) % 7 ≡ 0 = eqb-true _ _ p.1 in
          inr (inr (inr ((n - 2) / 7, record { least = omega arith; most = omega arith }, omega arith)))
    ]
  ]
]

-- a body that is longer than a welcome's, or as long as a hello's, may be of several statements
pub is_four : (n : ℕ) → 16 ≤ n → is_type n 4 ≡ true
is_four n le =
    let one : eqb n 1 ≡ false = ne_eqb n 1 (λ z. omega arith) in
    let eight : eqb n 8 ≡ false = ne_eqb n 8 (λ z. omega arith) in
    let nine : eqb n 9 ≡ false = ne_eqb n 9 (λ z. omega arith) in
    rw (one, eight, nine) (elim (eqb n 16) as (λ v. cond v true true ≡ true) [ true ↦ refl | false ↦ refl ])

-- what stands in front of each body
pub record HasFront (m : Message) : Type 0 where
  pub text : frame_bytes m ≡ length (frame_body m) / 256 ∷ length (frame_body m) % 256 ∷ frame_body m
  pub length_is : is_length (length (frame_body m)) ≡ true
  pub short : length (frame_body m) ≤ 695
  pub type : ℕ
  pub payload : List ℕ
  pub body : frame_body m ≡ type ∷ payload
  pub type_is : is_type (length (frame_body m)) type ≡ true

-- the length of the body of several statements
pub body_long : (many : List Statement) → length (frame_body (message.Statements many)) ≡ 2 + 7 * length many
body_long many = omega (arith, statements_long many)

-- the text of several statements
pub many_text : (many : List Statement) (c : ℕ) → length many ≡ c
    → frame_bytes (message.Statements many) ≡ head_bytes (head.Statements c) ++ statements_bytes many
many_text many c e =
    let n : length (frame_body (message.Statements many)) ≡ 2 + 7 * c = body_long many ∙ ap (λ (k : ℕ). 2 + 7 * k) e in
    ap (λ (n : ℕ). n / 256 % 256 ∷ n % 256 ∷ 4 ∷ length many ∷ statements_bytes many) n
    ∙ ap (λ (k : ℕ). (2 + 7 * c) / 256 % 256 ∷ (2 + 7 * c) % 256 ∷ 4 ∷ k ∷ statements_bytes many) e

-- each text begins with the length of its body, in two bytes, and a type of that length
pub front_of : (size : Size) (m : Message) → Fits size m → HasFront m
front_of size message.Idle fits =
    record { text = refl; length_is = refl; short = omega arith; type = 0; payload = []; body = refl; type_is = refl }
front_of size (message.Hello version cluster its from to) fits =
    record { text = refl; length_is = refl; short = omega arith; type = 1; payload = _; body = refl; type_is = refl }
front_of size (message.Welcome next) fits =
    record { text = refl; length_is = refl; short = omega arith; type = 2; payload = _; body = refl; type_is = refl }
front_of size (message.Statement s) fits =
    record { text = refl; length_is = refl; short = omega arith; type = 3; payload = _; body = refl; type_is = refl }
front_of size (message.Statements many) fits =
    let n : ℕ = length (frame_body (message.Statements many)) in
    let long : n ≡ 2 + 7 * length many = body_long many in
    let least : 2 ≤ length many = fits.count.least in
    let most : length many ≤ 99 = fits.count.most in
    let small : n / 256 % 256 ≡ n / 256 = omega arith in
    record {
      text = ap (λ (h : ℕ). h ∷ n % 256 ∷ frame_body (message.Statements many)) small;
      length_is = many_length n (length many) long fits.count;
      short = omega arith;
      type = 4;
      payload = length many ∷ statements_bytes many;
      body = refl;
      type_is = is_four n (omega arith);
    }

-- what a text says in front
pub record Says (m : Message) (h l : ℕ) (body : List ℕ) : Type 0 where
  pub length_is : length (frame_body m) ≡ 256 * h + l
  pub high : h ≤ 2
  pub body_is : frame_body m ≡ body

-- the same of a text that begins so
pub says : (size : Size) (m : Message) (h l : ℕ) (body : List ℕ) → Fits size m → frame_bytes m ≡ h ∷ l ∷ body → Says m h l body
says size m h l body fits e =
    let f = front_of size m fits in
    let n : ℕ = length (frame_body m) in
    let high : n / 256 ≡ h = cell 0 _ _ (sym f.text ∙ e) in
    let low : n % 256 ≡ l = cell 1 _ _ (sym f.text ∙ e) in
    let short : n ≤ 695 = f.short in
    record {
      length_is = omega arith;
      high = omega arith;
      body_is = ap (λ (t : List ℕ). drop 2 t) (sym f.text ∙ e);
    }

-- its length is one that bodies have
pub says_length : (size : Size) (m : Message) (h l : ℕ) (body : List ℕ) → Fits size m → frame_bytes m ≡ h ∷ l ∷ body → is_length (256 * h + l) ≡ true
says_length size m h l body fits e =
    subst (λ (k : ℕ). is_length k ≡ true) (says size m h l body fits e).length_is (front_of size m fits).length_is

-- its type is one of its length
pub says_type : (size : Size) (m : Message) (h l t : ℕ) (payload : List ℕ) → Fits size m → frame_bytes m ≡ h ∷ l ∷ t ∷ payload → is_type (256 * h + l) t ≡ true
says_type size m h l t payload fits e =
    let s = says size m h l (t ∷ payload) fits e in
    let f = front_of size m fits in
    let same : f.type ≡ t = cell 0 _ _ (sym f.body ∙ s.body_is) in
    subst (λ (k : ℕ). is_type (256 * h + l) k ≡ true) same (subst (λ (k : ℕ). is_type k f.type ≡ true) s.length_is f.type_is)

-- several statements, of a text that has their type
pub is_many : (size : Size) (m : Message) (h l : ℕ) (payload : List ℕ) → Fits size m → frame_bytes m ≡ h ∷ l ∷ 4 ∷ payload
    → (many : List Statement) × FitMany size many × (length many ∷ statements_bytes many ≡ payload) × (2 + 7 * length many ≡ 256 * h + l)
is_many size message.Idle h l payload fits e =
    let b = first _ _ _ _ (says size message.Idle h l (4 ∷ payload) fits e).body_is in absurd (omega arith)
is_many size (message.Hello version cluster its from to) h l payload fits e =
    let b = first _ _ _ _ (says size (message.Hello version cluster its from to) h l (4 ∷ payload) fits e).body_is in absurd (omega arith)
is_many size (message.Welcome next) h l payload fits e =
    let b = first _ _ _ _ (says size (message.Welcome next) h l (4 ∷ payload) fits e).body_is in absurd (omega arith)
is_many size (message.Statement s) h l payload fits e =
    let b = first _ _ _ _ (says size (message.Statement s) h l (4 ∷ payload) fits e).body_is in absurd (omega arith)
is_many size (message.Statements many) h l payload fits e =
    let s = says size (message.Statements many) h l (4 ∷ payload) fits e in
    (many, fits, ap (λ (t : List ℕ). drop 1 t) s.body_is, sym (body_long many) ∙ s.length_is)

-- lists of statements of the cluster
pub all_both : (size : Size) (xs ys : List Statement) → AllByRecursion (IsWellFormed size) xs → AllByRecursion (IsWellFormed size) ys
    → AllByRecursion (IsWellFormed size) (xs ++ ys)
all_both size [] ys a b = b
all_both size (x ∷ xs) ys a b = (a.0, all_both size xs ys a.1 b)

-- so many times the least one
all_least : (size : Size) (n : ℕ) → IsSize size → AllByRecursion (IsWellFormed size) (replicate n least)
all_least size zero lawful = tt
all_least size (suc n) lawful = (least_fits size lawful, all_least size n lawful)

-- they fit in one frame
least_many : (size : Size) (c : ℕ) → IsSize size → IsCount c → FitMany size (replicate c least)
least_many size c lawful few =
    record { count = subst IsCount (sym (length-replicate {A = Statement} c least)) few; each = all_least size c lawful }

-- the text of so many, which begins with a front and a byte
pub least_begins : (size : Size) (c : ℕ) (front : List ℕ) (next : ℕ) (more : List ℕ) → IsSize size → IsCount c
    → head_bytes (head.Statements c) ++ statements_bytes (replicate c least) ≡ front ++ next ∷ more → IsPartial size front
least_begins size c front next more lawful few e = record {
  message = message.Statements (replicate c least);
  fits = least_many size c lawful few;
  next = next;
  more = more;
  whole = many_text (replicate c least) c (length-replicate {A = Statement} c least) ∙ e;
}

-- of the bytes of statements those of the first ones are known: behind them stands one more
behind : (size : Size) (done many : List Statement) (x : List ℕ) → AllByRecursion (IsWellFormed size) many → length done < length many
    → statements_bytes many ≡ statements_bytes done ++ x → (s : Statement) × (after : List ℕ) × IsWellFormed size s × (x ≡ statement_bytes s ++ after)
behind size done [] x each lt e = absurd (omega arith)
behind size [] (s ∷ many) x each lt e = (s, statements_bytes many, each.0, sym e)
behind size (d ∷ done) (s ∷ many) x each lt e =
    let le : suc (length done) < suc (length many) = lt in
    behind size done many x each.1 (omega arith) (ap (λ (t : List ℕ). drop 7 t) e ∙ ap (λ (t : List ℕ). drop 7 t) (append_assoc (statement_bytes d) (statements_bytes done) x))

-- the bytes of one statement more
pub bytes_more : (xs : List Statement) (s : Statement) → statements_bytes (xs ++ s ∷ []) ≡ statements_bytes xs ++ statement_bytes s
bytes_more xs s = flat_map-append statement_bytes xs (s ∷ []) ∙ ap (λ (t : List ℕ). statements_bytes xs ++ t) (append-nil (statement_bytes s))

-- behind the head and some of the statements stands one more, while there are some
pub many_precedes : (size : Size) (c : ℕ) (done : List Statement) → IsSize size → IsCount c → AllByRecursion (IsWellFormed size) done → length done < c
    → PrecedesStatement size (head_bytes (head.Statements c) ++ statements_bytes done)
many_precedes size c done lawful few each lt = record {
  begins = λ s well.
      let left : ℕ = c - length done - 1 in
      let all : List Statement = done ++ s ∷ replicate left least in
      let long : length all ≡ c = omega (arith, length-append done (s ∷ replicate left least), length-replicate {A = Statement} left least) in
      let bytes : statements_bytes all ≡ (statements_bytes done ++ statement_bytes s) ++ statements_bytes (replicate left least) =
      flat_map-append statement_bytes done (s ∷ replicate left least) ∙ sym (append_assoc (statements_bytes done) (statement_bytes s) (statements_bytes (replicate left least))) in
      record {
        message = message.Statements all;
        fits = record { count = subst IsCount (sym long) few; each = all_both size done (s ∷ replicate left least) each (well, all_least size left lawful) };
        more = statements_bytes (replicate left least);
        whole = many_text all c long ∙ ap (λ (t : List ℕ). head_bytes (head.Statements c) ++ t) bytes;
      };
  only = λ bytes b.
      let m = is_many size b.message ((2 + 7 * c) / 256 % 256) ((2 + 7 * c) % 256) (c ∷ ((statements_bytes done ++ bytes) ++ b.more)) b.fits b.whole in
      let count : length m.0 ≡ c = cell 0 _ _ m.2 in
      let same : statements_bytes m.0 ≡ statements_bytes done ++ (bytes ++ b.more) =
      ap (λ (t : List ℕ). drop 1 t) m.2 ∙ append_assoc (statements_bytes done) bytes b.more in
      behind size done m.0 (bytes ++ b.more) m.1.each (omega arith) same;
  fault = λ bytes short.
      let long : length (statements_bytes done ++ bytes) % 7 ≡ length bytes =
      omega (arith, length-append (statements_bytes done) bytes, statements_long done) in
      ap statement_fault long;
}

-- so many statements of the cluster were read behind others, and these bytes are behind them
pub record AreBehind (size : Size) (front : List ℕ) (left : ℕ) (bytes : List ℕ) (x : List Statement × List ℕ) : Type 0 where
  pub count : length x.0 ≡ left
  pub each : AllByRecursion (IsWellFormed size) x.0
  pub whole : bytes ≡ front ++ (statements_bytes x.0 ++ x.1)

-- the head and these statements
abbrev pub so_far : ℕ → List Statement → List ℕ
so_far c done = head_bytes (head.Statements c) ++ statements_bytes done

-- one statement more of them
pub so_far_more : (c : ℕ) (done : List Statement) (s : Statement) (rest : List ℕ)
    → so_far c (done ++ s ∷ []) ++ rest ≡ so_far c done ++ (statement_bytes s ++ rest)
so_far_more c done s rest =
    ap (λ (t : List ℕ). (head_bytes (head.Statements c) ++ t) ++ rest) (bytes_more done s)
    ∙ ap (λ (t : List ℕ). head_bytes (head.Statements c) ++ t) (append_assoc (statements_bytes done) (statement_bytes s) rest)

-- the statements of a frame behind some of them
pub many_tells : (size : Size) (c left : ℕ) (done : List Statement) (bytes : List ℕ) → IsSize size → IsCount c → AllByRecursion (IsWellFormed size) done
    → length done + left ≡ c → AreBytes bytes → TellsOf size (AreBehind size (so_far c done) left) (so_far c done ++ bytes) (many_at size left bytes)
many_tells size c zero done bytes lawful few each all are = record { count = refl; each = tt; whole = refl }
many_tells size c (suc left) done bytes lawful few each all are =
    let lt : length done < c = omega arith in
    let whole : List ℕ = so_far c done ++ bytes in
    tells_then size (IsStatementBehind size (so_far c done)) (AreBehind size (so_far c done) (suc left)) whole (spelled_at size bytes)
    (λ (first : Statement × List ℕ). and_more first.0 (many_at size left first.1))
    (spelled_tells size (so_far c done) bytes (many_precedes size c done lawful few each lt) lawful are)
    (λ x g.
    let rest : bytes ≡ statement_bytes x.0 ++ x.1 = append_cancel_left (so_far c done) bytes (statement_bytes x.0 ++ x.1) g.1 in
    let P : List ℕ → Type 0 = AreBytes in
    let on : TellsOf size (AreBehind size (so_far c (done ++ x.0 ∷ [])) left) (so_far c (done ++ x.0 ∷ []) ++ x.1) (many_at size left x.1) =
    many_tells size c left (done ++ x.0 ∷ []) x.1 lawful few (all_both size done (x.0 ∷ []) each (g.0, tt)) (omega (arith, length-append done (x.0 ∷ []))) (bytes_back (statement_bytes x.0) x.1 (subst P rest are)) in
    let same : so_far c (done ++ x.0 ∷ []) ++ x.1 ≡ whole = so_far_more c done x.0 x.1 ∙ sym g.1 in
    let T : List ℕ → Type 0 = λ t. TellsOf size (AreBehind size (so_far c (done ++ x.0 ∷ [])) left) t (many_at size left x.1) in
    tells_then size (AreBehind size (so_far c (done ++ x.0 ∷ [])) left) (AreBehind size (so_far c done) (suc left)) whole (many_at size left x.1)
    (λ (more : List Statement × List ℕ). Ok (x.0 ∷ more.0, more.1)) (subst T same on)
    (λ more b. record {
      count = ap suc b.count;
      each = (g.0, b.each);
      whole = b.whole ∙ so_far_more c done x.0 (statements_bytes more.0 ++ more.1)
          ∙ ap (λ (t : List ℕ). so_far c done ++ t) (sym (append_assoc (statement_bytes x.0) (statements_bytes more.0) more.1));
    }))
