use Rattle.std.proofs.Common.{◌≡◌, ◌∙◌, ◌&&◌, Bool, false, max, sym, ap, subst, if◌then◌else◌}
use Rattle.std.specs.Option.{is_some}
use Rattle.epochs.specs.declared.state.State.{State}
use Rattle.epochs.specs.Opens.{runs}
use Rattle.epochs.proofs.Reporting.{newest_if_runs, runs_if_told}
use Rattle.epochs.proofs.state.State.report.Goals as goal

pub returns-in_err-settle-in-Some-clause-newest : goal.returns-in_err-settle-in-Some-clause-newest
returns-in_err-settle-in-Some-clause-newest c =
    newest_if_runs c.args.self.now c.tell_second.new.self c.args.epoch c.args.report _
    (runs_if_told c.args.self.now c.args.epoch c.args.report _ _ _ (ap (λ (s : State). s.running.items) c.tell_second.ensures.rest)
    c.note_report.ensures.noted c.note_report.ensures.tells ∙ ap is_some c.in-Some.is)
    (ap (λ (s : State). s.newest) c.tell_second.ensures.rest) c.settle.ensures.newest

pub returns-in_ok-settle-in-Some-clause-newest : goal.returns-in_ok-settle-in-Some-clause-newest
returns-in_ok-settle-in-Some-clause-newest c =
    newest_if_runs c.args.self.now c.tell_second.new.self c.args.epoch c.args.report _
    (runs_if_told c.args.self.now c.args.epoch c.args.report _ _ _ (ap (λ (s : State). s.running.items) c.tell_second.ensures.rest)
    c.note_report.ensures.noted c.note_report.ensures.tells ∙ ap is_some c.in-Some.is)
    (ap (λ (s : State). s.newest) c.tell_second.ensures.rest) c.settle.ensures.newest

pub returns-in-None-clause-newest : goal.returns-in-None-clause-newest
returns-in-None-clause-newest c =
    let epoch = c.args.epoch in
    let before = ap (λ (s : State). s.newest) c.tell_second.ensures.rest in
    let run = runs_if_told c.args.self.now epoch c.args.report _ _ _ (ap (λ (s : State). s.running.items) c.tell_second.ensures.rest) c.note_report.ensures.noted c.note_report.ensures.tells
    ∙ ap is_some c.in-None.is in
    subst (λ (b : Bool). c.tell_second.new.self.newest ≡ (if b && c.args.report.is_begun then max c.args.self.now.newest epoch else c.args.self.now.newest)) (sym run) before

pub returns-in-None-clause-wanted : goal.returns-in-None-clause-wanted
returns-in-None-clause-wanted c =
    let run : runs c.args.self.now c.args.epoch ≡ false = runs_if_told c.args.self.now c.args.epoch c.args.report _ _ _ (ap (λ (s : State). s.running.items) c.tell_second.ensures.rest)
    c.note_report.ensures.noted c.note_report.ensures.tells ∙ ap is_some c.in-None.is in
    λ runs wanted kept. cc

pub returns-in-None-clause-left_out : goal.returns-in-None-clause-left_out
returns-in-None-clause-left_out c =
    let run : runs c.args.self.now c.args.epoch ≡ false = runs_if_told c.args.self.now c.args.epoch c.args.report _ _ _ (ap (λ (s : State). s.running.items) c.tell_second.ensures.rest)
    c.note_report.ensures.noted c.note_report.ensures.tells ∙ ap is_some c.in-None.is in
    λ runs begun one left. cc
