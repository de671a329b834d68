use Rattle.std.proofs.Common.{refl}
use Rattle.command_line.proofs.tasks.program.Goals as goal

pub returns : goal.returns
returns c =
    let bare = c.with_telling-program.ensures _ c.bare.ensures in
    let new_cluster = c.with_command-program.ensures _ _ bare c.new_cluster.ensures refl in
    let init = c.with_command-program-2.ensures _ _ new_cluster c.init.ensures refl in
    let check = c.with_command-program-3.ensures _ _ init c.check.ensures refl in
    let run = c.with_command-program-4.ensures _ _ check c.run.ensures refl in
    let propose = c.with_command-program-5.ensures _ _ run c.propose.ensures refl in
    let ask = c.with_command-program-6.ensures _ _ propose c.ask.ensures refl in
    let decide = c.with_command-program-7.ensures _ _ ask c.decide.ensures refl in
    let status = c.with_command-program-8.ensures _ _ decide c.status.ensures refl in
    let transcript = c.with_command-program-9.ensures _ _ status c.transcript.ensures refl in
    let audit = c.with_command-program-10.ensures _ _ transcript c.audit.ensures refl in
    let gateway = c.with_command-program-11.ensures _ _ audit c.gateway.ensures refl in
    let epochs = c.with_command-program-12.ensures _ _ gateway c.epochs.ensures refl in
    let dump = c.with_command-program-13.ensures _ _ epochs c.dump.ensures refl in
    let migrate = c.with_command-program-14.ensures _ _ dump c.migrate.ensures refl in
    let simulate = c.with_command-program-15.ensures _ _ migrate c.simulate.ensures refl in
    let rounds = c.with_command-program-16.ensures _ _ simulate c.rounds.ensures refl in
    c.with_command.ensures _ _ rounds c.hear.ensures refl
