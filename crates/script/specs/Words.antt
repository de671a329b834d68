-- The words of this crate in one module, for proofs.
pub use Rattle.script.specs.declared.Script.{Script}
pub use Rattle.script.specs.declared.fault.ScriptFault.{ScriptFault}
pub use Rattle.script.specs.declared.lines.Line.{Line}
pub use Rattle.script.specs.declared.step.Order.{Order}
pub use Rattle.script.specs.declared.step.Verb.{Verb}
pub use Rattle.script.specs.Acts.{Act, TossedAct, tossed_act}
pub use Rattle.script.specs.Acts.Act.{Crash, Deliver, DeliverAll, Fuse, Lie, Propose, Reset, Restart}
pub use Rattle.script.specs.Drawing.{drawn, tossed}
pub use Rattle.script.specs.LineWords.{AreMembers, ArePick, IsBit, IsCount, IsFuse, IsGroupSize, IsLong, IsMember, IsWhich, words_of}
pub use Rattle.script.specs.Lines.{HasLine, Page, is_comment, line_number, number_or, page_from, said_from}
pub use Rattle.script.specs.Fair.{Cast, Network, fresh}
unfoldable pub use Rattle.script.specs.Fair.{event}
unfoldable pub use Rattle.script.specs.Making.{add, add_drawn, add_fair}
pub use Rattle.script.specs.Making.{BreakBy, BreaksAt, LeadTo, LeadsBy, Made, adds, after_step, after_steps, cast_of, correct_below, draws, fairs, how_many, round, row, times, turns}
pub use Rattle.script.specs.Orders.{ends_empty, is_empty, made_by, numbered, order_step, texts}
pub use Rattle.script.specs.Scripts.{AreListedLiars, FailsOr, HeadFailsOr, IsFirstFault, IsHead, IsHeadFault, IsNumberNamed, IsScript, IsSeed, SaysCluster, LacksLine, MakeSize, SizeFailsOr, at_start}
pub use Rattle.script.specs.Sources.{SourceFields, all_turns, events_of, left_of, turns_of}
pub use Rattle.script.specs.Steps.{One, SaysBehind, SaysStep, ScriptStep, Three, Two, verb_name}
pub use Rattle.script.specs.Steps.ScriptStep.{Fair, Once, Random, Rounds}
