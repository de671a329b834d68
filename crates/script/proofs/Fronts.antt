-- What is made is the same whatever was made before.
use Rattle.std.proofs.Common.{ℕ, zero, suc, ◌≡◌, refl, sym, ap, ◌∙◌, List, [], ◌∷◌, ◌++◌, append_assoc, append-nil}
use Rattle.rand_chacha.specs.ChaCha.{ChaCha}
use Rattle.terms_prelude.specs.Terms.{Size}
use Rattle.script.specs.Words.{Act, TossedAct, drawn, tossed, ScriptStep, Once, Rounds, Random, Fair, Cast, Network, event, Made, add, add_drawn, add_fair, adds, cast_of, draws, fairs, round, times, after_step, after_steps, events_of}

-- with these events in front
abbrev pub behind : List TossedAct → Made → Made
behind front made = record { events = front ++ made.events; stream = made.stream }

add_behind : (act : Act) (front : List TossedAct) (made : Made) → add act (behind front made) ≡ behind front (add act made)
unfolding add
add_behind act front made =
    ap (λ (l : List TossedAct). record { events = l; stream = (tossed act made.stream).1 }) (append_assoc front made.events ((tossed act made.stream).0 ∷ []))

add_drawn_behind : (size : Size) (front : List TossedAct) (made : Made) → add_drawn size (behind front made) ≡ behind front (add_drawn size made)
unfolding add_drawn
add_drawn_behind size front made =
    add_behind (drawn size made.stream).0 front (record { events = made.events; stream = (drawn size made.stream).1 })

adds_behind : (acts : List Act) (front : List TossedAct) (made : Made) → adds acts (behind front made) ≡ behind front (adds acts made)
adds_behind [] front made = refl
adds_behind (act ∷ acts) front made = ap (λ (m : Made). adds acts m) (add_behind act front made) ∙ adds_behind acts front (add act made)

draws_behind : (size : Size) (k : ℕ) (front : List TossedAct) (made : Made) → draws size k (behind front made) ≡ behind front (draws size k made)
draws_behind size zero front made = refl
draws_behind size (suc k) front made = ap (λ (m : Made). draws size k m) (add_drawn_behind size front made) ∙ draws_behind size k front (add_drawn size made)

add_fair_behind : (cast : Cast) (left : ℕ) (network : Network) (front : List TossedAct) (made : Made)
    → add_fair cast left network (behind front made) ≡ ((add_fair cast left network made).0, behind front (add_fair cast left network made).1)
unfolding add_fair
add_fair_behind cast left network front made =
    let drawn = event cast left network made.stream in
    ap (λ (m : Made). (drawn.0.1, m)) (add_behind drawn.0.0 front (record { events = made.events; stream = drawn.1 }))

fairs_behind : (cast : Cast) (k : ℕ) (network : Network) (front : List TossedAct) (made : Made)
    → fairs cast k network (behind front made) ≡ behind front (fairs cast k network made)
fairs_behind cast zero network front made = refl
fairs_behind cast (suc k) network front made =
    let next : Network × Made = add_fair cast (suc k) network made in
    ap (λ (p : Network × Made). fairs cast k p.0 p.1) (add_fair_behind cast (suc k) network front made)
    ∙ fairs_behind cast k next.0 front next.1

step_behind : (size : Size) (correct : List ℕ) (step : ScriptStep) (front : List TossedAct) (made : Made)
    → after_step size correct step (behind front made) ≡ behind front (after_step size correct step made)
step_behind size correct (Once act) front made = add_behind act front made
step_behind size correct (Rounds k) front made = adds_behind (times k (round correct)) front made
step_behind size correct (Random k) front made = draws_behind size k front made
step_behind size correct (Fair left network) front made = fairs_behind (cast_of size correct) left network front made

steps_behind : (size : Size) (correct : List ℕ) (steps : List ScriptStep) (front : List TossedAct) (made : Made)
    → after_steps size correct steps (behind front made) ≡ behind front (after_steps size correct steps made)
steps_behind size correct [] front made = refl
steps_behind size correct (step ∷ steps) front made =
    ap (λ (m : Made). after_steps size correct steps m) (step_behind size correct step front made)
    ∙ steps_behind size correct steps front (after_step size correct step made)

-- the first events of a step, and what they leave
pub first_events : (size : Size) (correct : List ℕ) (step rest : ScriptStep) (steps : List ScriptStep) (stream : ChaCha) (now : Made)
    → after_step size correct rest now ≡ after_step size correct step (record { events = []; stream = stream })
    → events_of size correct (step ∷ steps) stream ≡ now.events ++ events_of size correct (rest ∷ steps) now.stream
first_events size correct step rest steps stream now same =
    let none : Made = record { events = []; stream = now.stream } in
    let front : now ≡ behind now.events none = ap (λ (l : List TossedAct). record { events = l; stream = now.stream }) (sym (append-nil now.events)) in
    ap (λ (m : Made). (after_steps size correct steps m).events) (sym same)
    ∙ (ap (λ (m : Made). (after_steps size correct (rest ∷ steps) m).events) front
    ∙ ap (λ (m : Made). m.events) (steps_behind size correct (rest ∷ steps) now.events none))
