-- Lines, one after the other.
use Rattle.std.proofs.Common.{ℕ, zero, suc, ◌==◌, ◌-◌, ◌≡◌, ◌+◌, Bool, true, false, eqb, refl, sym, ap, ◌∙◌, subst, ◌⊎◌, inl, inr, arith, Option, Some, None, List, [], ◌∷◌, ◌++◌, length, append_assoc, append-nil, length-append, IfSome, slice_get, eqb-true}
use Rattle.std.specs.Io.KnownBytes.{Appends, IsAtEnd}
use Rattle.std.specs.Io.BufRead.{take_through, drop_through, DropsThrough}
use Rattle.terms_prelude.specs.Terms.{Size}
use Rattle.hearing.specs.declared.session.Session.{Session}
use Rattle.hearing.specs.Pieces.{IsNoPiece}
use Rattle.numerals.specs.Lines.{NoEnd, lines_of, onto_line}
use Rattle.hearing.specs.InTurn.{InTurn}
use Rattle.hearing.specs.Replies.{Hearing, no_hearing, AnswersInput}
use Rattle.hearing.specs.Keeping.{SessionStandsFor}
use Rattle.hearing.specs.Hears.{Hears, WritesReplies}
use Rattle.hearing.proofs.Turns.{InTurn-snoc}

-- the first line of bytes that aren't all read
pub record FirstLine (bytes : List ℕ) : Type 0 where
  pub line : List ℕ
  pub lines : lines_of bytes ≡ line ∷ lines_of (drop_through 10 bytes)
  pub taken : (take_through 10 bytes ≡ line ++ 10 ∷ []) ⊎ ((take_through 10 bytes ≡ line) × NoEnd line)

pub first_line : (b : ℕ) (bytes : List ℕ) → FirstLine (b ∷ bytes)
first_line b [] = step (eqb b 10) refl
  where
    step : (t : Bool) → eqb b 10 ≡ t → FirstLine (b ∷ [])
    step true e = record { line = []; lines = rw e refl; taken = inl (rw (eqb-true b 10 e) refl) }
    step false e = record { line = b ∷ []; lines = rw e refl; taken = inr (rw e refl, (e, tt)) }
first_line b (c ∷ more) = step (eqb b 10) refl (first_line c more)
  where
    longer : (f : FirstLine (c ∷ more)) → (take_through 10 (c ∷ more) ≡ f.line ++ 10 ∷ []) ⊎ ((take_through 10 (c ∷ more) ≡ f.line) × NoEnd f.line)
        → eqb b 10 ≡ false → take_through 10 (b ∷ c ∷ more) ≡ b ∷ take_through 10 (c ∷ more)
        → (take_through 10 (b ∷ c ∷ more) ≡ (b ∷ f.line) ++ 10 ∷ []) ⊎ ((take_through 10 (b ∷ c ∷ more) ≡ b ∷ f.line) × NoEnd (b ∷ f.line))
    longer f (inl g) e t = inl (t ∙ ap (λ x. b ∷ x) g)
    longer f (inr g) e t = inr (t ∙ ap (λ x. b ∷ x) g.0, (e, g.1))

    step : (t : Bool) → eqb b 10 ≡ t → FirstLine (c ∷ more) → FirstLine (b ∷ c ∷ more)
    step true e f = record { line = []; lines = rw e refl; taken = inl (rw (eqb-true b 10 e) refl) }
    step false e f = record {
      line = b ∷ f.line;
      lines = rw e (ap (λ ls. onto_line b ls) f.lines);
      taken = longer f f.taken e (rw e refl);
    }

-- the lines that were read are answered, and these bytes remain
abbrev pub AreHeard : Size → ℕ → List ℕ → Option (List ℕ) → Session → Option (List ℕ) → Option (List ℕ) → ℕ → Type 0
AreHeard size me all left session old new number =
    (rest : List ℕ) × (good : List (List ℕ)) × (after : Hearing) × (text : List ℕ)
    × (left ≡ Some rest) × (lines_of all ≡ good ++ lines_of rest) × InTurn (AnswersInput size) (no_hearing size me) good after text
    × SessionStandsFor session after × Appends old new text × (number ≡ length good + 1)

-- bytes with no end of a line have none anywhere
pub no_end : (xs ys : List ℕ) → NoEnd (xs ++ 10 ∷ ys) → ⊥
no_end [] ys h = let e : true ≡ false = h.0 in cc
no_end (x ∷ xs) ys h = no_end xs ys h.1

-- what the code takes off the first line
pub line_is : {bytes line text : List ℕ} → (f : FirstLine bytes) → line ≡ take_through 10 bytes
    → ((front : List ℕ) → line ≡ front ++ 10 ∷ [] → text ≡ front) → (NoEnd line → text ≡ line) → text ≡ f.line
line_is {bytes} {line} {text} f read ended last = step f.taken
  where
    step : (take_through 10 bytes ≡ f.line ++ 10 ∷ []) ⊎ ((take_through 10 bytes ≡ f.line) × NoEnd f.line) → text ≡ f.line
    step (inl g) = ended f.line (read ∙ g)
    step (inr g) = last (subst (λ (l : List ℕ). NoEnd l) (sym (read ∙ g.0)) g.1) ∙ (read ∙ g.0)

-- the end of the input
pub all_heard : (size : Size) (me : ℕ) (all rest : List ℕ) (good : List (List ℕ)) (after : Hearing) (text : List ℕ) → rest ≡ []
    → lines_of all ≡ good ++ lines_of rest → InTurn (AnswersInput size) (no_hearing size me) good after text → Hears size me all None text
all_heard size me all rest good after text none lines answered =
    record { good = good; others = lines_of rest; after = after; lines = lines; answered = answered; stops = ap lines_of none }

-- a line that is no piece
pub stopped : (size : Size) (me number : ℕ) (all rest : List ℕ) (good : List (List ℕ)) (after : Hearing) (text line : List ℕ) → (f : FirstLine rest) → line ≡ f.line
    → IsNoPiece size.n line → number ≡ length good + 1
    → lines_of all ≡ good ++ lines_of rest → InTurn (AnswersInput size) (no_hearing size me) good after text → Hears size me all (Some number) text
stopped size me number all rest good after text line f same bad count lines answered =
    record {
      good = good;
      others = f.line ∷ lines_of (drop_through 10 rest);
      after = after;
      lines = lines ∙ ap (λ ls. good ++ ls) f.lines;
      answered = answered;
      stops = (subst (λ (l : List ℕ). IsNoPiece size.n l) same bad, count);
    }

-- where no byte ends a line, none does at an index
pub none_at : (xs : List ℕ) (i : ℕ) → NoEnd xs → slice_get xs i ≡ Some 10 → ⊥
none_at [] i none h = cc
none_at (x ∷ xs) zero none h =
    let e : x ≡ 10 = cc in
    let f : (10 == 10) ≡ false = subst (λ b. (b == 10) ≡ false) e none.0 in
    cc
none_at (x ∷ xs) (suc i) none h = none_at xs i none.1 h

-- the last byte of a line with its end
pub last_at : (front : List ℕ) → slice_get (front ++ 10 ∷ []) (length (front ++ 10 ∷ []) - 1) ≡ Some 10
last_at [] = refl
last_at (x ∷ front) = subst (λ i. slice_get (x ∷ front ++ 10 ∷ []) i ≡ Some 10) index (last_at front)
  where
    index : suc (length (front ++ 10 ∷ []) - 1) ≡ length (x ∷ front ++ 10 ∷ []) - 1
    index = let l = length-append front (10 ∷ []) in omega (arith, l)

-- nothing was heard yet
pub nothing_heard : (size : Size) (me : ℕ) (known contents : Option (List ℕ)) (session : Session) → SessionStandsFor session (no_hearing size me)
    → IfSome known (λ all. AreHeard size me all known session contents contents 1)
nothing_heard size me None contents session at = tt
nothing_heard size me (Some all) contents session at = (all, [], no_hearing size me, [], refl, refl, (refl, refl), at, same contents, refl)
  where
    same : (c : Option (List ℕ)) → Appends c c []
    same None = tt
    same (Some xs) = sym (append-nil xs)

-- all was heard
pub ended : (size : Size) (me number : ℕ) (known left old new : Option (List ℕ)) (session : Session)
    → IfSome known (λ all. AreHeard size me all left session old new number) → IsAtEnd left → WritesReplies size me known None old new
ended size me number None left old new session h end = tt
ended size me number (Some all) left old new session (rest, good, after, text, is, lines, answered, at, shown, count) end =
    (text, all_heard size me all rest good after text (subst (λ (o : Option (List ℕ)). IsAtEnd o) is end) lines answered, shown)

-- what was read isn't nothing, so it is a first line
pub some_line : (rest line : List ℕ) (n : ℕ) → line ≡ take_through 10 rest → length line ≡ n → (n ≡ 0 → ⊥) → FirstLine rest
some_line [] line n read len some = absurd (some (sym len ∙ ap (λ (l : List ℕ). length l) read))
some_line (b ∷ rest) line n read len some = first_line b rest

-- a line that was read: the bytes of the first line of what was left, with its end
abbrev pub WasRead : Option (List ℕ) → Option (List ℕ) → List ℕ → Type 0
WasRead left after line = IfSome left (λ xs. line ≡ take_through 10 xs) × DropsThrough left after 10

-- the next line is no piece
pub bad_line : (size : Size) (me number n : ℕ) (known left next old new : Option (List ℕ)) (session : Session) (line text : List ℕ)
    → IfSome known (λ all. AreHeard size me all left session old new number)
    → WasRead left next line → length line ≡ n → (n ≡ 0 → ⊥)
    → ((front : List ℕ) → line ≡ front ++ 10 ∷ [] → text ≡ front) → (NoEnd line → text ≡ line)
    → IsNoPiece size.n text → WritesReplies size me known (Some number) old new
bad_line size me number n None left next old new session line text h read len some cut last bad = tt
bad_line size me number n (Some all) left next old new session line text (rest, good, after, shown, is, lines, answered, at, grown, count) read len some cut last bad =
    let r : WasRead (Some rest) next line = subst (λ (o : Option (List ℕ)). WasRead o next line) is read in
    let f = some_line rest line n r.0 len some in
    (shown, stopped size me number all rest good after shown text f (line_is f r.0 cut last) bad count lines answered, grown)

-- one line more is answered
pub one_line : (size : Size) (me number n : ℕ) (known left next old mid new : Option (List ℕ)) (session later : Session) (line text : List ℕ)
    → IfSome known (λ all. AreHeard size me all left session old mid number)
    → WasRead left next line → length line ≡ n → (n ≡ 0 → ⊥)
    → ((front : List ℕ) → line ≡ front ++ 10 ∷ [] → text ≡ front) → (NoEnd line → text ≡ line)
    → ((h : Hearing) → SessionStandsFor session h → (after : Hearing) × (shown : List ℕ) × AnswersInput size h text after shown × SessionStandsFor later after × Appends mid new shown)
    → IfSome known (λ all. AreHeard size me all next later old new (number + 1))
one_line size me number n None left next old mid new session later line text h read len some cut last answers = tt
one_line size me number n (Some all) left next old mid new session later line text (rest, good, before, shown, is, lines, answered, at, grown, count) read len some cut last answers =
    let r : WasRead (Some rest) next line = subst (λ (o : Option (List ℕ)). WasRead o next line) is read in
    let f = some_line rest line n r.0 len some in
    let same = line_is f r.0 cut last in
    let a = answers before at in
    let more = length-append good (f.line ∷ []) in (
      drop_through 10 rest,
      good ++ f.line ∷ [],
      a.0,
      shown ++ a.1,
      r.1,
      lines ∙ (ap (λ ls. good ++ ls) f.lines ∙ sym (append_assoc good (f.line ∷ []) (lines_of (drop_through 10 rest)))),
      InTurn-snoc (AnswersInput size) (no_hearing size me) good f.line before a.0 shown a.1 answered (subst (λ (l : List ℕ). AnswersInput size before l a.0 a.1) same a.2),
      a.3,
      joined old mid new shown a.1 grown a.4,
      omega (arith, more, count),
    )
  where
    joined : (old mid new : Option (List ℕ)) (x y : List ℕ) → Appends old mid x → Appends mid new y → Appends old new (x ++ y)
    joined None mid new x y g a = tt
    joined (Some xs) None new x y g a = absurd g
    joined (Some xs) (Some ys) None x y g a = absurd a
    joined (Some xs) (Some ys) (Some zs) x y g a = a ∙ (ap (λ t. t ++ y) g ∙ append_assoc xs x y)

-- what a read into an empty buffer gave
pub was_read : (left after : Option (List ℕ)) (empty buffer line : List ℕ) → empty ≡ [] → line ≡ buffer
    → IfSome left (λ xs. buffer ≡ empty ++ take_through 10 xs) → DropsThrough left after 10 → WasRead left after line
was_read None after empty buffer line e l bytes rest = (tt, rest)
was_read (Some xs) after empty buffer line e l bytes rest = (l ∙ (bytes ∙ ap (λ t. t ++ take_through 10 xs) e), rest)
