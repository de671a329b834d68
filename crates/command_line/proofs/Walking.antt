-- What a walk over words keeps in which the kit finds no fault, where each use of an argument keeps it.
use Rattle.std.proofs.Common.{◌≡◌, ◌⊎◌, ℕ, Bool, cond, true, false, zero, suc, refl, ap, subst, inl, inr, List, [], ◌∷◌, length, drop, Option, Some, None, is_some, fold, encode_utf8, slice_get, unwrap_or, find, ◌&&◌}
use Rattle.std.specs.Prelude.{⊤}
use Rattle.std.specs.Option.{option_map_or}
use Rattle.std.specs.Str.{bytes_eq, chars}
use Rattle.clap.specs.Lexer.{long_of, short_of}
use Rattle.clap.specs.Simple.{Shape}
use Rattle.clap.specs.Walk.{Held, Names, Outcome, Row, Rule, Step, Text, Waiting, Walk, after_flag, after_step, arg_by_id, arg_by_index, arg_by_long, arg_by_short, attached_value, bundle_met, bundle_step, done, flag_met, idle, is_pending, long_met, long_or_other, next, option, option_met, option_word, plain, plain_word, positional, reacted, refused, settled, settled_rows, short_met, short_or_plain, subcommand, subcommand_met, subcommand_or_other, takes_several, takes_values, to_positional, trailing, used, used_by_id, value, waits, walked, walked_from, word_met}
use Rattle.clap.specs.Faults.{bundle_fault, bundle_step_fault, flag_word_fault, flags_fault, long_fault, option_fault, other_fault, positional_fault, react_fault, settle_fault, short_fault, step_fault, stray_fault, turn_fault, use_fault, walk_fault, word_fault}
use Rattle.clap.specs.Kinds.{Kinds, or_else}
use Rattle.clap.specs.declared.error.kind.ErrorKind.TheVariants.{TooManyValues}

pub not_some : {X : Type 0} (x : X) → None ≡ Some x → ⊥
not_some x e = cc

pub same_under : {X : Type 0} (d x y : X) → Some x ≡ Some y → x ≡ y
same_under d x y e = ap (λ o. unwrap_or o d) e

pub left_of : (a b : Kinds) → or_else a b ≡ [] → a ≡ []
left_of [] b e = refl
left_of (k ∷ ks) b e = e

pub right_of : (a b : Kinds) → or_else a b ≡ [] → b ≡ []
right_of [] b e = e
right_of (k ∷ ks) b e = cc

-- the rule is one of the list
abbrev pub Member : List Rule → Rule → Type 0
Member [] a = ⊥
Member (x ∷ xs) a = (x ≡ a) ⊎ Member xs a

pub found_member : (test : Rule → Bool) (c : List Rule) (a : Rule) → find test c ≡ Some a → Member c a × (test a ≡ true)
found_member test [] a is = absurd (not_some a is)
found_member test (x ∷ xs) a is = go (test x) refl (found_member test xs a) is
  where
    go : (b : Bool) → test x ≡ b → (find test xs ≡ Some a → Member xs a × (test a ≡ true)) → cond b (Some x) (find test xs) ≡ Some a
        → Member (x ∷ xs) a × (test a ≡ true)
    go true tested rest is =
        let same : x ≡ a = same_under x x a is in
        (inl same, subst (λ y. test y ≡ true) same tested)
    go false tested rest is = (inr (rest is).0, (rest is).1)

module _ (s : Shape) (P : List Row → Type 0) (Q : Text → Type 0)
    (uses : (a : Rule) (values : List Text) (rows : List Row) → Member s.rules a → use_fault s.args_override_self a values rows ≡ [] → P rows → P (used a values rows))
    (met : (name word : Text) (h : Held) → other_fault s (Some name) word h ≡ [] → Q name) where
  by_id : (id : Text) (found : Option Rule) → arg_by_id s.rules id ≡ found → (values : List Text) (rows : List Row)
      → option_map_or (λ a. use_fault s.args_override_self a values rows) found [] ≡ [] → P rows → P (used_by_id found values rows)
  by_id id None is values rows e p = p
  by_id id (Some a) is values rows e p = uses a values rows (found_member (λ a. bytes_eq a.id id) s.rules a is).0 e p

  pending_rows : (pending : Option (Text × List Text)) (rows : List Row)
      → option_map_or (λ q. option_map_or (λ a. use_fault s.args_override_self a q.1 rows) (arg_by_id s.rules q.0) []) pending [] ≡ [] → P rows
      → P (settled_rows s.rules pending rows)
  pending_rows None rows e p = p
  pending_rows (Some q) rows e p = by_id q.0 (arg_by_id s.rules q.0) refl q.1 rows e p

  pub settle : (h : Held) → settle_fault s.rules s.args_override_self h ≡ [] → P h.rows → P (settled s.rules h).rows
  settle h e p = pending_rows h.pending h.rows e p

  react : (a : Rule) (values : List Text) (h : Held) → Member s.rules a → react_fault s.rules s.args_override_self a values h ≡ [] → P h.rows
      → P (reacted s.rules a values h).rows
  react a values h has e p =
      let first = settle_fault s.rules s.args_override_self h in
      let second = use_fault s.args_override_self a values (settled s.rules h).rows in
      uses a values (settled s.rules h).rows has (right_of first second e) (settle h (left_of first second e) p)

  option_ok : (a : Rule) (v : Option Text) (h : Held) → Member s.rules a → option_fault s.rules s.args_override_self a v h ≡ [] → P h.rows
      → P (option_met s.rules a v h).0.rows
  option_ok a None h has e p = settle h e p
  option_ok a (Some v) h has e p = react a (v ∷ []) h has e p

  flag_ok : (a : Rule) (v : Option Text) (h : Held) → Member s.rules a
      → cond (is_some v) (TooManyValues ∷ []) (react_fault s.rules s.args_override_self a [] h) ≡ [] → P h.rows
      → P (flag_met s.rules a v h).0.rows
  flag_ok a None h has e p = react a [] h has e p
  flag_ok a (Some v) h has e p = p

  valued : (takes : Bool) (a : Rule) (v : Option Text) (h : Held) → Member s.rules a
      → cond takes (option_fault s.rules s.args_override_self a v h) (cond (is_some v) (TooManyValues ∷ []) (react_fault s.rules s.args_override_self a [] h)) ≡ []
      → P h.rows → P (cond takes (option_met s.rules a v h) (flag_met s.rules a v h)).0.rows
  valued true a v h has e p = option_ok a v h has e p
  valued false a v h has e p = flag_ok a v h has e p

  long_ok : (name : Text) (found : Option Rule) → arg_by_long s.rules name ≡ found → (v : Option Text) (h : Held)
      → long_fault s.rules s.args_override_self found v h ≡ [] → P h.rows → P (long_met s.rules found v h).0.rows
  long_ok name None is v h e p = p
  long_ok name (Some a) is v h e p = valued (takes_values a) a v h (found_member _ s.rules a is).0 e p

  bundled : (takes : Bool) (a : Rule) (rest : Text) (h : Held) (next_met : Held → Held × Outcome) (next_fault : Held → Kinds)
      → ((k : Held) → next_fault k ≡ [] → P k.rows → P (next_met k).0.rows) → Member s.rules a
      → cond takes (option_fault s.rules s.args_override_self a (attached_value rest) h) (or_else (react_fault s.rules s.args_override_self a [] h) (next_fault (reacted s.rules a [] h))) ≡ []
      → P h.rows → P (cond takes (option_met s.rules a (attached_value rest) h) (next_met (reacted s.rules a [] h))).0.rows
  bundled true a rest h next_met next_fault next_ok has e p = option_ok a (attached_value rest) h has e p
  bundled false a rest h next_met next_fault next_ok has e p =
      let first = react_fault s.rules s.args_override_self a [] h in
      let second = next_fault (reacted s.rules a [] h) in
      next_ok (reacted s.rules a [] h) (right_of first second e) (react a [] h has (left_of first second e) p)

  short_ok : (x : ℕ) (found : Option Rule) → arg_by_short s.rules x ≡ found → (rest : Text) (h : Held) (next_met : Held → Held × Outcome) (next_fault : Held → Kinds)
      → ((k : Held) → next_fault k ≡ [] → P k.rows → P (next_met k).0.rows)
      → short_fault s.rules s.args_override_self found rest h next_fault ≡ [] → P h.rows → P (short_met s.rules found rest h next_met).0.rows
  short_ok x None is rest h next_met next_fault next_ok e p = p
  short_ok x (Some a) is rest h next_met next_fault next_ok e p =
      bundled (takes_values a) a rest h next_met next_fault next_ok (found_member _ s.rules a is).0 e p

  bundle_one : (next_met : Text → ℕ → Outcome → Held → Held × Outcome) (next_fault : Text → ℕ → Held → Kinds)
      → ((flags : Text) (skip : ℕ) (so_far : Outcome) (h : Held) → next_fault flags skip h ≡ [] → P h.rows → P (next_met flags skip so_far h).0.rows)
      → (x : Option ℕ) (flags : Text) (skip : ℕ) (so_far : Outcome) (h : Held)
      → bundle_step_fault s.rules s.args_override_self x flags skip h next_fault ≡ [] → P h.rows
      → P (bundle_step s.rules x flags skip so_far h next_met).0.rows
  bundle_one next_met next_fault next_ok None flags skip so_far h e p = p
  bundle_one next_met next_fault next_ok (Some x) flags zero so_far h e p =
      let rest = drop (length (encode_utf8 x)) flags in
      short_ok x (arg_by_short s.rules x) refl rest h (next_met rest 0 done) (next_fault rest 0) (λ k. next_ok rest 0 done k) e p
  bundle_one next_met next_fault next_ok (Some x) flags (suc skip) so_far h e p =
      next_ok (drop (length (encode_utf8 x)) flags) skip so_far h e p

  bundle_ok : (k : ℕ) (flags : Text) (skip : ℕ) (so_far : Outcome) (h : Held) → flags_fault s.rules s.args_override_self k flags skip h ≡ [] → P h.rows
      → P (bundle_met s.rules k flags skip so_far h).0.rows
  unfolding flags_fault bundle_met
  bundle_ok zero flags skip so_far h e p = p
  bundle_ok (suc k) flags skip so_far h e p =
      bundle_one (bundle_met s.rules k) (flags_fault s.rules s.args_override_self k) (bundle_ok k) (slice_get (chars flags) 0) flags skip so_far h e p

  -- the step names a subcommand only where that is fine
  abbrev StepOk : Step → Type 0
  StepOk (next waiting) = ⊤
  StepOk (trailing position) = ⊤
  StepOk (subcommand name) = Q name
  StepOk value = ⊤

  abbrev Fine : Held × Step → Type 0
  Fine m = P m.0.rows × StepOk m.1

  option_word_ok : (found : Option Rule) (id word : Text) (h : Held) → P h.rows → P (option_word found id word h).0.rows
  option_word_ok None id word h p = p
  option_word_ok (Some a) id word h p = p

  plain_ok : (waiting : Waiting) (word : Text) (h : Held) → P h.rows → Fine (plain_word s.rules waiting word h)
  plain_ok idle word h p = (p, tt)
  plain_ok positional word h p = (p, tt)
  plain_ok (option id) word h p = (option_word_ok (arg_by_id s.rules id) id word h p, tt)

  after_ok : (waiting : Waiting) (word : Text) (h : Held) (outcome : Outcome) → P h.rows → Fine (after_flag s.rules waiting word h outcome)
  after_ok waiting word h done p = (p, tt)
  after_ok waiting word h (waits id) p = (p, tt)
  after_ok waiting word h plain p = plain_ok waiting word h p
  after_ok waiting word h refused p = plain_ok waiting word h p

  short_word_ok : (waiting : Waiting) (word : Text) (flags : Option Text) (h : Held)
      → option_map_or (λ f. bundle_fault s.rules s.args_override_self f h) flags [] ≡ [] → P h.rows → Fine (short_or_plain s.rules waiting word flags h)
  short_word_ok waiting word None h e p = plain_ok waiting word h p
  short_word_ok waiting word (Some flags) h e p =
      after_ok waiting word _ _ (bundle_ok (length flags) flags h.skip plain (record h { skip = 0 }) e p)

  dashed_ok : (waiting : Waiting) (word : Text) (long : Option (Text × Option Text)) (h : Held)
      → flag_word_fault s.rules s.args_override_self long word h ≡ [] → P h.rows → Fine (long_or_other s.rules waiting word long h)
  dashed_ok waiting word None h e p = short_word_ok waiting word (short_of word) h e p
  dashed_ok waiting word (Some q) h e p =
      after_ok waiting word _ _ (long_ok q.0 (arg_by_long s.rules q.0) refl q.1 h e p)

  other_ok : (sub : Option Text) (waiting : Waiting) (position : ℕ) (word : Text) (h : Held) → other_fault s sub word h ≡ [] → P h.rows
      → Fine (subcommand_or_other s.rules sub waiting position word h)
  other_ok (Some name) waiting position word h e p = (p, met name word h e)
  other_ok None waiting position word h e p = go (bytes_eq word (45 ∷ 45 ∷ [])) e
    where
      go : (b : Bool) → cond b [] (flag_word_fault s.rules s.args_override_self (long_of word) word h) ≡ []
          → Fine (cond b (h, trailing position) (long_or_other s.rules waiting word (long_of word) h))
      go true e = (p, tt)
      go false e = dashed_ok waiting word (long_of word) h e p

  word_ok : (names : Names) (is_trailing : Bool) (waiting : Waiting) (position : ℕ) (word : Text) (h : Held)
      → word_fault s names is_trailing waiting word h ≡ [] → P h.rows → Fine (word_met s.rules names is_trailing waiting position word h)
  word_ok names true waiting position word h e p = (p, tt)
  word_ok names false waiting position word h e p = other_ok (subcommand_met names waiting word) waiting position word h e p

  -- the walk names a subcommand only where that is fine
  abbrev pub StopOk : Option (Text × List Text) → Type 0
  StopOk None = ⊤
  StopOk (Some q) = Q q.0

  abbrev pub Good : Walk → Type 0
  Good w = P w.held.rows × StopOk w.stopped

  place_ok : (found : Option Rule) (w : Walk) (word : Text) (h : Held) → StopOk w.stopped
      → option_map_or (λ a. positional_fault s.rules s.args_override_self a h) found (stray_fault s) ≡ [] → P h.rows
      → Good (to_positional s.rules found word w h)
  place_ok None w word h stop e p = (p, stop)
  place_ok (Some a) w word h stop e p = (go (is_pending a h.pending && takes_several a) e, tt)
    where
      go : (b : Bool) → cond b [] (settle_fault s.rules s.args_override_self h) ≡ [] → P (cond b h (settled s.rules h)).rows
      go true e = p
      go false e = settle h e p

  step_ok : (w : Walk) (word : Text) (h : Held) (step : Step) → StopOk w.stopped → step_fault s w.position h step ≡ [] → P h.rows → StepOk step
      → Good (after_step s.rules word w h step)
  step_ok w word h (next waiting) stop e p fine = (p, stop)
  step_ok w word h (trailing position) stop e p fine = (p, stop)
  step_ok w word h (subcommand name) stop e p fine = (p, fine)
  step_ok w word h value stop e p fine = place_ok (arg_by_index s.rules w.position) w word h stop e p

  turn_ok : (names : Names) (w : Walk) (word : Text) → turn_fault s names w word ≡ [] → Good w → Good (walked s.rules names w word)
  unfolding walked
  turn_ok names w word e good = go w.stopped good.1 e
    where
      go : (stopped : Option (Text × List Text)) → StopOk stopped
          → cond (is_some stopped) [] (or_else (word_fault s names w.is_trailing w.waiting word w.held)
          (step_fault s w.position (word_met s.rules names w.is_trailing w.waiting w.position word w.held).0 (word_met s.rules names w.is_trailing w.waiting w.position word w.held).1)) ≡ []
          → Good (walked_from s.rules names stopped w word)
      go (Some q) stop e = (good.0, stop)
      go None stop e =
          let m = word_met s.rules names w.is_trailing w.waiting w.position word w.held in
          let first = word_fault s names w.is_trailing w.waiting word w.held in
          let second = step_fault s w.position m.0 m.1 in
          let fine = word_ok names w.is_trailing w.waiting w.position word w.held (left_of first second e) good.0 in
          step_ok w word m.0 m.1 good.1 (right_of first second e) fine.0 fine.1

  pub walk_ok : (names : Names) (words : List Text) (w : Walk) → walk_fault s names w words ≡ [] → Good w → Good (fold (walked s.rules names) w words)
  unfolding walk_fault
  walk_ok names [] w e good = good
  walk_ok names (x ∷ xs) w e good =
      let first = turn_fault s names w x in
      let second = walk_fault s names (walked s.rules names w x) xs in
      walk_ok names xs (walked s.rules names w x) (right_of first second e) (turn_ok names w x (left_of first second e) good)
