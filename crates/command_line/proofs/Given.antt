-- What stands in the rows of words in which the kit finds no fault: each argument that is required has a value that passes.
use Rattle.std.proofs.Common.{◌≡◌, ◌∙◌, ◌<◌, ◌++◌, ◌⊎◌, ◌&&◌, ◌||◌, ◌==◌, ℕ, Bool, cond, not, true, false, refl, ap, sym, subst, inl, inr, arith, List, [], ◌∷◌, length, Option, Some, None, fold, slice_get, find, nat_lt, option_and_then, option_map, ne_eqb}
use Rattle.std.specs.Prelude.{⊤}
use Rattle.std.specs.List.{list_all, list_any}
use Rattle.std.specs.Option.{option_map_or}
use Rattle.std.specs.Str.{bytes_eq}
use Rattle.std.proofs.lemmas.Bool.{and_parts, and_from}
use Rattle.std.proofs.lemmas.Slice.Eq.{bytes_eq-Decides}
use Rattle.clap.specs.Values.{is_request, read_as, refused_kind}
use Rattle.clap.specs.declared.error.kind.ErrorKind.{ErrorKind}
use Rattle.clap.specs.declared.error.kind.ErrorKind.TheVariants.{InvalidValue, WrongNumberOfValues, TooFewValues, TooManyValues}
use Rattle.clap.specs.Facts.{explicit_source, parser_of_value, unwrap_or_range}
use Rattle.clap.specs.Simple.{Shape}
use Rattle.clap.specs.Takes.{is_given, value_passes, values_pass}
use Rattle.clap.specs.ValueTests.{accepts}
use Rattle.clap.specs.Walk.{Row, Rule, Text, action_of, at_row, default_rows, finished, first_of, has_row, is_empty, more_values, most_values, nothing_held, one_of, reading_by, row_text, rows_after, settled, used, used_as, values_or_missing, walk, walk_from, with_default, with_values, without}
use Rattle.clap.specs.Faults.{action_fault, check_fault, default_fault, defaults_fault, level_fault, repeat_fault, settle_fault, use_fault, values_fault, walk_fault}
use Rattle.clap.specs.Kinds.{check_kinds, or_else, range_kinds, request_kinds, value_kinds, values_kinds}
use Rattle.clap.specs.declared.builder.action.ArgAction.{ArgAction}
use Rattle.clap.specs.declared.builder.action.ArgAction.TheVariants as action
use Rattle.clap.specs.declared.parser.matches.ValueSource.{ValueSource}
use Rattle.clap.specs.declared.parser.matches.ValueSource.TheVariants.{DefaultValue, CommandLine}
use Rattle.command_line.proofs.Walking.{Member, left_of, not_some, right_of, same_under, settle, walk_ok}

-- ---- lists of rules

-- no two of the rules have one id
abbrev pub is_distinct : List Rule → Bool
is_distinct [] = true
is_distinct (x ∷ xs) = not (list_any (λ y. bytes_eq x.id y.id) xs) && is_distinct xs

is_in_any : (test : Rule → Bool) (c : List Rule) (a : Rule) → Member c a → test a ≡ true → list_any test c ≡ true
is_in_any test [] a has tested = absurd has
is_in_any test (x ∷ xs) a (inl same) tested = go (test x) (subst (λ y. test y ≡ true) (sym same) tested)
  where
    go : (b : Bool) → b ≡ true → (b || list_any test xs) ≡ true
    go true e = refl
    go false e = cc
is_in_any test (x ∷ xs) a (inr has) tested = go (test x) (is_in_any test xs a has tested)
  where
    go : (b : Bool) → list_any test xs ≡ true → (b || list_any test xs) ≡ true
    go true e = refl
    go false e = e

pub is_in_all : (test : Rule → Bool) (c : List Rule) (a : Rule) → list_all test c ≡ true → Member c a → test a ≡ true
is_in_all test [] a each has = absurd has
is_in_all test (x ∷ xs) a each (inl same) = subst (λ y. test y ≡ true) same (and_parts (test x) (list_all test xs) each).0
is_in_all test (x ∷ xs) a each (inr has) = is_in_all test xs a (and_parts (test x) (list_all test xs) each).1 has

is_in_none : (test : Rule → Bool) (c : List Rule) (a : Rule) → list_any test c ≡ false → Member c a → test a ≡ false
is_in_none test c a none has = go (test a) refl
  where
    go : (b : Bool) → test a ≡ b → b ≡ false
    go false e = refl
    go true e =
        let bad : false ≡ true = sym none ∙ is_in_any test c a has e in
        cc

not_true : (b : Bool) → not b ≡ true → b ≡ false
not_true true e = cc
not_true false e = refl

-- so two of them with one id are one
pub same_rule : (c : List Rule) (a b : Rule) → is_distinct c ≡ true → Member c a → Member c b → a.id ≡ b.id → a ≡ b
same_rule [] a b apart has_a has_b same = absurd has_a
same_rule (x ∷ xs) a b apart (inl is_a) (inl is_b) same = sym is_a ∙ is_b
same_rule (x ∷ xs) a b apart (inr has_a) (inr has_b) same =
    same_rule xs a b (and_parts (not (list_any (λ y. bytes_eq x.id y.id) xs)) (is_distinct xs) apart).1 has_a has_b same
same_rule (x ∷ xs) a b apart (inl is_a) (inr has_b) same =
    let none = not_true _ (and_parts (not (list_any (λ y. bytes_eq x.id y.id) xs)) (is_distinct xs) apart).0 in
    let met : bytes_eq x.id b.id ≡ true = (bytes_eq-Decides x.id b.id).1 (ap (λ (y : Rule). y.id) is_a ∙ same) in
    let bad : true ≡ false = sym met ∙ is_in_none (λ y. bytes_eq x.id y.id) xs b none has_b in
    cc
same_rule (x ∷ xs) a b apart (inr has_a) (inl is_b) same =
    let none = not_true _ (and_parts (not (list_any (λ y. bytes_eq x.id y.id) xs)) (is_distinct xs) apart).0 in
    let met : bytes_eq x.id a.id ≡ true = (bytes_eq-Decides x.id a.id).1 (ap (λ (y : Rule). y.id) is_b ∙ sym same) in
    let bad : true ≡ false = sym met ∙ is_in_none (λ y. bytes_eq x.id y.id) xs a none has_a in
    cc

-- ---- values

passes : (a : Rule) (vs : List Text) → values_fault a vs ≡ [] → values_pass a vs ≡ true
passes a [] e = refl
passes a (v ∷ vs) e =
    let first = value_kinds a.ignore_case (parser_of_value a.parser) v in
    let rest = values_kinds a.ignore_case (parser_of_value a.parser) vs in
    and_from (value_passes a v) (values_pass a vs) (go (accepts a.ignore_case (parser_of_value a.parser) v) (refused_kind (parser_of_value a.parser)) (left_of first rest e)) (passes a vs (right_of first rest e))
  where
    go : (b : Bool) (k : ErrorKind) → cond b [] (k ∷ []) ≡ [] → b ≡ true
    go true k e = refl
    go false k e = cc

all_append : (test : Text → Bool) (xs ys : List Text) → list_all test xs ≡ true → list_all test ys ≡ true → list_all test (xs ++ ys) ≡ true
all_append test [] ys e f = f
all_append test (x ∷ xs) ys e f =
    let parts = and_parts (test x) (list_all test xs) e in
    and_from (test x) (list_all test (xs ++ ys)) parts.0 (all_append test xs ys parts.1 f)

longer : (xs ys : List Text) → 0 < length xs → 0 < length (xs ++ ys)
longer [] ys some = absurd (omega arith)
longer (x ∷ xs) ys some = omega arith

-- ---- rows

-- the row holds values of one of the rules, all of which pass
pub record FromRule (c : List Rule) (r : Row) : Type 0 where
  pub rule : Rule
  pub has : Member c rule
  pub same_id : rule.id ≡ r.id
  pub pass : values_pass rule r.values ≡ true
  pub some : 0 < length r.values
  pub reads : r.reading ≡ reading_by rule

abbrev pub Rows : List Rule → List Row → Type 0
Rows c [] = ⊤
Rows c (r ∷ rs) = FromRule c r × Rows c rs

rows_append : (c : List Rule) (xs ys : List Row) → Rows c xs → Rows c ys → Rows c (xs ++ ys)
rows_append c [] ys p q = q
rows_append c (x ∷ xs) ys p q = (p.0, rows_append c xs ys p.1 q)

at_rows : (c : List Rule) (id : Text) (change : Row → List Row) (missing rows : List Row)
    → ((r : Row) → FromRule c r → bytes_eq r.id id ≡ true → Rows c (change r)) → Rows c missing → Rows c rows → Rows c (at_row id change missing rows)
at_rows c id change missing [] changed new p = new
at_rows c id change missing (r ∷ rs) changed new p = go (bytes_eq r.id id) refl (at_rows c id change missing rs changed new p.1)
  where
    go : (b : Bool) → bytes_eq r.id id ≡ b → Rows c (at_row id change missing rs) → Rows c (cond b (change r ++ rs) (r ∷ at_row id change missing rs))
    go true e rest = rows_append c (change r) rs (changed r p.0 e) p.1
    go false e rest = (p.0, rest)

module _ (c : List Rule) (apart : is_distinct c ≡ true) where
  with_values_rows : (a : Rule) (from : ValueSource) (vs : List Text) (rows : List Row) → Member c a → values_pass a vs ≡ true → 0 < length vs → Rows c rows
      → Rows c (with_values a.id (reading_by a) from vs rows)
  with_values_rows a from vs rows has pass some p =
      at_rows c a.id (more_values from vs) _ rows more (record { rule = a; has = has; same_id = refl; pass = pass; some = some; reads = refl }, tt) p
    where
      more : (r : Row) → FromRule c r → bytes_eq r.id a.id ≡ true → Rows c (more_values from vs r)
      more r old e =
          let same : old.rule ≡ a = same_rule c old.rule a apart old.has has (old.same_id ∙ (bytes_eq-Decides r.id a.id).0 e) in
          let pass_old : values_pass old.rule vs ≡ true = subst (λ b. values_pass b vs ≡ true) (sym same) pass in (
            record {
              rule = old.rule;
              has = old.has;
              same_id = old.same_id;
              pass = all_append (value_passes old.rule) r.values vs old.pass pass_old;
              some = longer r.values vs old.some;
              reads = old.reads;
            },
            tt,
          )

  without_rows : (id : Text) (rows : List Row) → Rows c rows → Rows c (without id rows)
  without_rows id rows p = at_rows c id (λ _. []) [] rows (λ r from e. tt) tt p

-- ---- a use

-- the action is to set values
abbrev pub is_value_action : ArgAction → Bool
is_value_action action.Set = true
is_value_action action.Append = true
is_value_action action.SetTrue = true
is_value_action action.SetFalse = true
is_value_action _ = false

-- a use of the argument has a value
abbrev pub has_some : Rule → Bool
has_some a = nat_lt 0 (unwrap_or_range a.range).start_inclusive || not (is_empty a.missing)

-- a use of the argument gives it a value, or asks for help or the version
abbrev pub is_solid : Rule → Bool
is_solid a = is_request (action_of a) || (is_value_action (action_of a) && has_some a)

no_values : (least most : ℕ) (missing : List Text) → (nat_lt 0 least || not (is_empty missing)) ≡ true → range_kinds least most 0 ≡ [] → 0 < length missing
no_values least most missing solid e = go (nat_lt 0 least) solid e
  where
    has : (missing : List Text) → not (is_empty missing) ≡ true → 0 < length missing
    has [] f = cc
    has (m ∷ ms) f = omega arith

    go : (b : Bool) → (b || not (is_empty missing)) ≡ true
        → cond (b && 0 == 0) (InvalidValue ∷ []) (cond (least == most) (cond (least == 0) [] (WrongNumberOfValues ∷ [])) (cond (nat_lt 0 least) (TooFewValues ∷ []) (cond (nat_lt most 0) (TooManyValues ∷ []) []))) ≡ []
        → 0 < length missing
    go true f e = cc
    go false f e = has missing f

filled_values : (a : Rule) (values : List Text) → range_kinds (unwrap_or_range a.range).start_inclusive (most_values a) (length values) ≡ []
    → has_some a ≡ true → 0 < length (values_or_missing a values)
filled_values a (v ∷ vs) e solid = omega arith
filled_values a [] e solid = no_values (unwrap_or_range a.range).start_inclusive (most_values a) a.missing solid e

module _ (c : List Rule) (again : Bool) (apart : is_distinct c ≡ true) (each : list_all is_solid c ≡ true) where
  pub used_rows : (a : Rule) (values : List Text) (rows : List Row) → Member c a → use_fault again a values rows ≡ [] → Rows c rows
      → Rows c (used a values rows)
  used_rows a values rows has e p =
      let range = range_kinds (unwrap_or_range a.range).start_inclusive (most_values a) (length values) in
      let act = action_fault (action_of a) again a (values_or_missing a values) rows in
      go (action_of a) (values_or_missing a values) (is_in_all is_solid c a each has) (filled_values a values (left_of range act e)) (right_of range act e)
    where
      set : (vs : List Text) → 0 < length vs → or_else (repeat_fault again a.id rows) (values_fault a vs) ≡ []
          → Rows c (with_values a.id (reading_by a) CommandLine vs (without a.id rows))
      set vs some e =
          with_values_rows c apart a CommandLine vs (without a.id rows) has (passes a vs (right_of (repeat_fault again a.id rows) (values_fault a vs) e)) some
          (without_rows c apart a.id rows p)

      go : (x : ArgAction) (vs : List Text) → (is_request x || (is_value_action x && has_some a)) ≡ true → (has_some a ≡ true → 0 < length vs)
          → action_fault x again a vs rows ≡ [] → Rows c (used_as x a.id (reading_by a) vs rows)
      go action.Count vs solid some e = cc
      go action.Set vs solid some e = set vs (some solid) e
      go action.SetTrue vs solid some e = set vs (some solid) e
      go action.SetFalse vs solid some e = set vs (some solid) e
      go action.Append vs solid some e = with_values_rows c apart a CommandLine vs rows has (passes a vs e) (some solid) p
      go action.Help vs solid some e = p
      go action.HelpShort vs solid some e = p
      go action.HelpLong vs solid some e = p
      go action.Version vs solid some e = p

  defaults_rows : (rules : List Rule) → ((a : Rule) → Member rules a → Member c a) → (rows : List Row) → defaults_fault rows rules ≡ [] → Rows c rows
      → Rows c (fold with_default rows rules)
  unfolding defaults_fault
  defaults_rows [] sub rows e p = p
  defaults_rows (a ∷ rest) sub rows e p =
      let first = default_fault rows a in
      let second = defaults_fault (with_default rows a) rest in
      defaults_rows rest (λ x has. sub x (inr has)) (with_default rows a) (right_of first second e) (one (has_row a.id rows) a.defaults (left_of first second e))
    where
      one : (b : Bool) (defaults : List Text) → cond (b || is_empty defaults) [] (or_else (request_kinds (action_of a)) (values_fault a defaults)) ≡ []
          → Rows c (cond b rows (default_rows a.id (reading_by a) defaults rows))
      one true defaults e = p
      one false [] e = p
      one false (v ∷ vs) e =
          with_values_rows c apart a DefaultValue (v ∷ vs) rows (sub a (inl refl)) (passes a (v ∷ vs) (right_of (request_kinds (action_of a)) (values_fault a (v ∷ vs)) (subst (λ (b : Bool). cond b [] (or_else (request_kinds (action_of a)) (values_fault a (v ∷ vs))) ≡ []) (ne_eqb _ _ (λ z. omega arith)) e))) (omega arith) p

-- ---- a level

row_found : (c : List Rule) (rows : List Row) (id : Text) (r : Row) → Rows c rows → find (λ (x : Row). bytes_eq x.id id) rows ≡ Some r
    → FromRule c r × (bytes_eq r.id id ≡ true)
row_found c [] id r p is = absurd (not_some r is)
row_found c (x ∷ xs) id r p is = go (bytes_eq x.id id) refl (row_found c xs id r p.1) is
  where
    go : (b : Bool) → bytes_eq x.id id ≡ b → (find (λ (x : Row). bytes_eq x.id id) xs ≡ Some r → FromRule c r × (bytes_eq r.id id ≡ true))
        → cond b (Some x) (find (λ (x : Row). bytes_eq x.id id) xs) ≡ Some r → FromRule c r × (bytes_eq r.id id ≡ true)
    go true e rest is =
        let same : x ≡ r = same_under x x r is in
        (subst (FromRule c) same p.0, subst (λ (y : Row). bytes_eq y.id id ≡ true) same e)
    go false e rest is = rest is

-- the argument has a value, which passes
abbrev pub Given : Rule → List Row → Type 0
Given a rows = (v : Text) × (first_of a.id rows ≡ Some v) × (one_of a.id rows ≡ Some (read_as (reading_by a) v)) × (value_passes a v ≡ true)

first_value_of : (a : Rule) (vs : List Text) → 0 < length vs → values_pass a vs ≡ true → (v : Text) × (slice_get vs 0 ≡ Some v) × (value_passes a v ≡ true)
first_value_of a [] some pass = absurd (omega arith)
first_value_of a (v ∷ vs) some pass = (v, refl, (and_parts (value_passes a v) (values_pass a vs) pass).0)

given_at : (c : List Rule) (a : Rule) (rows : List Row) (r : Row) → is_distinct c ≡ true → Member c a
    → find (λ (x : Row). bytes_eq x.id a.id) rows ≡ Some r → FromRule c r → bytes_eq r.id a.id ≡ true → Given a rows
given_at c a rows r apart has is from e =
    let same : from.rule ≡ a = same_rule c from.rule a apart from.has has (from.same_id ∙ (bytes_eq-Decides r.id a.id).0 e) in
    let v = first_value_of a r.values from.some (subst (λ b. values_pass b r.values ≡ true) same from.pass) in
    let reads : r.reading ≡ reading_by a = from.reads ∙ ap reading_by same in (
      v.0,
      ap (option_and_then (λ (x : Row). slice_get x.values 0)) is ∙ v.1,
      ap (option_and_then row_text) is ∙ (ap (option_map (read_as r.reading)) v.1 ∙ ap (λ how. Some (read_as how v.0)) reads),
      v.2,
    )

given_by : (c : List Rule) (a : Rule) (rows : List Row) → is_distinct c ≡ true → Member c a → Rows c rows → is_given a.id rows ≡ true → Given a rows
given_by c a rows apart has p e = go (find (λ (x : Row). bytes_eq x.id a.id) rows) refl e
  where
    go : (o : Option Row) → find (λ (x : Row). bytes_eq x.id a.id) rows ≡ o → option_map_or (λ (r : Row). explicit_source r.source) o false ≡ true → Given a rows
    go None is e = cc
    go (Some r) is e =
        let from = row_found c rows a.id r p is in
        given_at c a rows r apart has is from.0 from.1

-- or it was not given
perhaps_by : (c : List Rule) (a : Rule) (rows : List Row) → is_distinct c ≡ true → Member c a → Rows c rows → Given a rows ⊎ (one_of a.id rows ≡ None)
perhaps_by c a rows apart has p = go (find (λ (x : Row). bytes_eq x.id a.id) rows) refl
  where
    go : (o : Option Row) → find (λ (x : Row). bytes_eq x.id a.id) rows ≡ o → Given a rows ⊎ (one_of a.id rows ≡ None)
    go None is = inr (ap (option_and_then row_text) is)
    go (Some r) is =
        let from = row_found c rows a.id r p is in
        inl (given_at c a rows r apart has is from.0 from.1)

third_none : (x y z : Bool) → check_kinds x y z ≡ [] → z ≡ false
third_none true y z e = cc
third_none false true z e = cc
third_none false false true e = cc
third_none false false false e = refl

pub second_none : (x y z : Bool) → check_kinds x y z ≡ [] → y ≡ false
second_none true y z e = cc
second_none false true z e = cc
second_none false false z e = refl

-- the argument was given where it is required
demanded : (required given : Bool) → (required && not given) ≡ false → required ≡ true → given ≡ true
demanded true true e r = refl
demanded true false e r = cc
demanded false given e r = cc

open_and : (b x : Bool) → b ≡ false → (not (b && false) && x) ≡ false → x ≡ false
open_and true x e f = cc
open_and false x e f = f

-- what the proofs below ask of a command
pub record IsSolid (s : Shape) : Type 0 where
  pub each : list_all is_solid s.rules ≡ true
  pub apart : is_distinct s.rules ≡ true
  pub demands : s.subcommand_negates_reqs ≡ false

-- in words in which the kit finds no fault each row is of one of the rules, and none of the required ones is missing
record Settled (s : Shape) (words : List Text) : Type 0 where
  rows : Rows s.rules (rows_after s.rules [] words)
  none : list_any (λ x. x.required && not (is_given x.id (rows_after s.rules [] words))) s.rules ≡ false

settled_in : (s : Shape) (words : List Text) → IsSolid s → level_fault s [] nothing_held words false [] ≡ [] → Settled s words
settled_in s words solid e =
    let end = (walk s.rules [] nothing_held words).held in
    let walking = walk_fault s [] (walk_from nothing_held) words in
    let settling = settle_fault s.rules s.args_override_self end in
    let filling = defaults_fault (settled s.rules end).rows s.rules in
    let checking = check_fault s (finished s.rules end) false in
    let after_walk = right_of walking (or_else settling (or_else filling checking)) e in
    let after_settle = right_of settling (or_else filling checking) after_walk in
    let uses = used_rows s.rules s.args_override_self solid.apart solid.each in
    let good = walk_ok s (Rows s.rules) (λ _. ⊤) uses (λ name word h f. tt) [] words (walk_from nothing_held) (left_of walking (or_else settling (or_else filling checking)) e) (tt, tt) in
    let at_end = settle s (Rows s.rules) (λ _. ⊤) uses (λ name word h f. tt) end (left_of settling (or_else filling checking) after_walk) good.0 in
    let checked = third_none _ _ _ (right_of filling checking after_settle) in
    record {
      rows = defaults_rows s.rules s.args_override_self solid.apart solid.each s.rules (λ x has. has) (settled s.rules end).rows (left_of filling checking after_settle) at_end;
      none = open_and s.subcommand_negates_reqs _ solid.demands checked;
    }

-- each required argument of a command with no subcommand has a value, where the kit finds no fault in its words
pub given_in : (s : Shape) (words : List Text) → IsSolid s → level_fault s [] nothing_held words false [] ≡ []
    → (a : Rule) → Member s.rules a → a.required ≡ true → Given a (rows_after s.rules [] words)
given_in s words solid e a has wanted =
    let settled = settled_in s words solid e in
    let given = demanded a.required _ (is_in_none (λ x. x.required && not (is_given x.id (rows_after s.rules [] words))) s.rules a settled.none has) wanted in
    given_by s.rules a (rows_after s.rules [] words) solid.apart has settled.rows given

-- and each other one has one, or wasn't given
pub perhaps_in : (s : Shape) (words : List Text) → IsSolid s → level_fault s [] nothing_held words false [] ≡ []
    → (a : Rule) → Member s.rules a → Given a (rows_after s.rules [] words) ⊎ (one_of a.id (rows_after s.rules [] words) ≡ None)
perhaps_in s words solid e a has = perhaps_by s.rules a (rows_after s.rules [] words) solid.apart has (settled_in s words solid e).rows
