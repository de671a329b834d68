-- What a seat counts stands in the account.
use Rattle.std.proofs.Common.{ℕ, ◌≡◌, ◌<◌, ◌==◌, inl, inr, refl, ap, sym, ◌∙◌, subst, Bool, true, false, List, [], ◌∷◌, ◌++◌, length, append_assoc, append-nil, length-append, if◌then◌else◌, arith}
use Rattle.std.proofs.lemmas.Bool.Decides.{nat_tests}
use Rattle.std.proofs.lemmas.List.{length-map}
use mathlib.Core.List.{IsPrefix}
use Rattle.terms_prelude.specs.Terms.{Statement}
use Rattle.rounds.specs.declared.tosses.Toss.{Toss}
use Rattle.node.specs.Lines.{WasHeard}
use Rattle.node.specs.Parts.{IsPartOf}
use Rattle.node.specs.Words.{Group, IsCounted, IsWithin, counted, firsts_of, grown, heard_from, said_by, said_in, said_in_group, with_group}
use Rattle.node.proofs.Fronts.{front_self}
use Rattle.node.proofs.Handing.{grown-append}
use Rattle.node.proofs.Shares.{whole_is_part}

-- more before it or behind it does no harm
within_longer : (some all more : List Statement) → IsWithin some all → IsWithin some (all ++ more)
within_longer [] all more h = tt
within_longer (s ∷ some) [] more h = absurd h
within_longer (s ∷ some) (t ∷ all) more (inl here) = inl (here.0, within_longer some all more here.1)
within_longer (s ∷ some) (t ∷ all) more (inr later) = inr (within_longer (s ∷ some) all more later)

pub within_later : (some before all : List Statement) → IsWithin some all → IsWithin some (before ++ all)
within_later [] before all h = tt
within_later (s ∷ some) [] all h = h
within_later (s ∷ some) (t ∷ before) all h = inr (within_later (s ∷ some) before all h)

within_self : (all : List Statement) → IsWithin all all
within_self [] = tt
within_self (s ∷ all) = inl (refl, within_self all)

within_both : (some all more others : List Statement) → IsWithin some all → IsWithin more others → IsWithin (some ++ more) (all ++ others)
within_both [] all more others h k = within_later more all others k
within_both (s ∷ some) [] more others h k = absurd h
within_both (s ∷ some) (t ∷ all) more others (inl here) k = inl (here.0, within_both some all more others here.1 k)
within_both (s ∷ some) (t ∷ all) more others (inr later) k = inr (within_both (s ∷ some) all more others later k)

-- what is said in two groups, and in two accounts, one behind the other
said_in_both : (p : ℕ) (es fs : Group) → said_in_group p (es ++ fs) ≡ said_in_group p es ++ said_in_group p fs
said_in_both p [] fs = refl
said_in_both p (e ∷ es) fs = step (e.0 == p) (said_in_both p es fs)
  where
    step : (b : Bool) → said_in_group p (es ++ fs) ≡ said_in_group p es ++ said_in_group p fs
        → (if b then e.1 ∷ said_in_group p (es ++ fs) else said_in_group p (es ++ fs)) ≡ (if b then e.1 ∷ said_in_group p es else said_in_group p es) ++ said_in_group p fs
    step true is = ap (λ (l : List Statement). e.1 ∷ l) is
    step false is = is

said_by_both : (p : ℕ) (log more : List Group) → said_by p (log ++ more) ≡ said_by p log ++ said_by p more
said_by_both p [] more = refl
said_by_both p (es ∷ log) more =
    ap (λ (l : List Statement). said_in_group p es ++ l) (said_by_both p log more) ∙ sym (append_assoc (said_in_group p es) (said_by p log) (said_by p more))

said_behind : (p : ℕ) (log : List Group) (es : Group) → said_by p (log ++ es ∷ []) ≡ said_by p log ++ said_in_group p es
said_behind p log es = said_by_both p log (es ∷ []) ∙ ap (λ (l : List Statement). said_by p log ++ l) (append-nil (said_in_group p es))

pub said_with : (p : ℕ) (log : List Group) (es : Group) → said_by p (with_group log es) ≡ said_by p log ++ said_in_group p es
said_with p log [] = sym (append-nil (said_by p log))
said_with p log (e ∷ es) = said_behind p log (e ∷ es)

same_number : (p : ℕ) → (p == p) ≡ true
same_number p = grind (arith, nat_tests)

said_of_heard : (p : ℕ) (events : List (Statement × Toss)) → said_in_group p (heard_from p events) ≡ said_in events
said_of_heard p [] = refl
said_of_heard p (e ∷ events) = rw (same_number p) (ap (λ (l : List Statement). e.0 ∷ l) (said_of_heard p events))

-- what a group has as a part stands in it as said by its peer
part_within : (p : ℕ) (events : List (Statement × Toss)) (group : Group) → IsPartOf (heard_from p events) group → IsWithin (said_in events) (said_in_group p group)
part_within p events group part =
    let all : said_in_group p group ≡ said_in_group p part.before ++ (said_in events ++ said_in_group p part.behind) =
    sym (ap (said_in_group p) part.is) ∙ said_in_both p part.before (heard_from p events ++ part.behind)
    ∙ ap (λ (l : List Statement). said_in_group p part.before ++ l) (said_in_both p (heard_from p events) part.behind ∙ ap (λ (l : List Statement). l ++ said_in_group p part.behind) (said_of_heard p events)) in
    subst (IsWithin (said_in events)) (sym all)
    (within_later (said_in events) (said_in_group p part.before) (said_in events ++ said_in_group p part.behind)
    (within_longer (said_in events) (said_in events) (said_in_group p part.behind) (within_self (said_in events))))

-- a seat that counted nothing
pub none_counted : (p : ℕ) (heard : List Statement) → IsCounted p 0 [] heard
none_counted p heard = record { said = []; within = tt; next_is = refl; firsts_are = refl }

-- what was heard behind all that a seat saw may be counted
pub counts : (p next : ℕ) (firsts : List Statement) (events : List (Statement × Toss)) (seen after : List Group) → IsCounted p next firsts (said_by p seen)
    → (w : WasHeard (heard_from p events) after) → IsPrefix seen w.base → IsCounted p (counted next (length events)) (grown p firsts (said_in events)) (said_by p after)
counts p next firsts events seen after was w begins =
    let base : said_by p w.base ≡ said_by p seen ++ said_by p begins.0 = sym (ap (said_by p) begins.1) ∙ said_by_both p seen begins.0 in
    let all : said_by p after ≡ said_by p w.base ++ said_in_group p w.group = ap (said_by p) w.ends ∙ said_behind p w.base w.group in
    let before : IsWithin was.said (said_by p w.base) = subst (IsWithin was.said) (sym base) (within_longer was.said (said_by p seen) (said_by p begins.0) was.within) in
    record {
      said = was.said ++ said_in events;
      within = subst (IsWithin (was.said ++ said_in events)) (sym all)
          (within_both was.said (said_by p w.base) (said_in events) (said_in_group p w.group) before (part_within p events w.group w.part));
      next_is = (let is = was.next_is in let many = length-map events (λ (e : Statement × Toss). e.0) in omega (arith, is, many, length-append was.said (said_in events)));
      firsts_are = ap (λ (l : List Statement). grown p l (said_in events)) was.firsts_are ∙ sym (grown-append p [] was.said (said_in events));
    }

-- what a seat sees once its link's statements were heard as one group, and that the account went on; where there is none it
-- sees what it saw
pub record Sees (seen log now : List Group) (p : ℕ) (events : List (Statement × Toss)) : Type 0 where
  pub begins : 0 < length events → IsPrefix seen log
  pub none : length events ≡ 0 → now ≡ seen
  pub some : 0 < length events → now ≡ with_group log (heard_from p events)

pub counts_group : (p next : ℕ) (firsts : List Statement) (events : List (Statement × Toss)) (seen log now : List Group) → IsCounted p next firsts (said_by p seen)
    → Sees seen log now p events → IsCounted p (counted next (length events)) (grown p firsts (said_in events)) (said_by p now)
counts_group p next firsts [] seen log now was sees =
    let same : said_by p seen ≡ said_by p now = ap (said_by p) (sym (sees.none refl)) in
    record { said = was.said; within = subst (IsWithin was.said) same was.within; next_is = (let is = was.next_is in omega (arith, is)); firsts_are = was.firsts_are }
counts_group p next firsts (e ∷ events) seen log now was sees =
    counts p next firsts (e ∷ events) seen now was (record { base = log; group = heard_from p (e ∷ events); ends = sees.some (omega arith); part = whole_is_part (heard_from p (e ∷ events)) })
    (sees.begins (omega arith))

pub sees_on : (p : ℕ) (events : List (Statement × Toss)) (seen log now : List Group) → Sees seen log now p events → IsPrefix seen now
sees_on p [] seen log now sees = subst (IsPrefix seen) (sym (sees.none refl)) (front_self seen)
sees_on p (e ∷ events) seen log now sees =
    let begins = sees.begins (omega arith) in
    (begins.0 ++ heard_from p (e ∷ events) ∷ [], sym (append_assoc seen begins.0 (heard_from p (e ∷ events) ∷ [])) ∙ ap (λ (l : List Group). l ++ heard_from p (e ∷ events) ∷ []) begins.1 ∙ sym (sees.some (omega arith)))

-- a seat's firsts are their own firsts
pub form_of : (p next : ℕ) (firsts heard : List Statement) → ((all : List Statement) → firsts_of p (firsts_of p all) ≡ firsts_of p all) → IsCounted p next firsts heard → firsts_of p firsts ≡ firsts
form_of p next firsts heard again was = ap (firsts_of p) was.firsts_are ∙ again was.said ∙ sym was.firsts_are

-- a book's account behind a group has heard it
pub heard_group : (es : Group) (log after : List Group) → after ≡ with_group log es → 0 < length es → WasHeard es after
heard_group [] log after is some = absurd (omega (arith, some))
heard_group (e ∷ es) log after is some = record { base = log; group = e ∷ es; ends = is; part = whole_is_part (e ∷ es) }
