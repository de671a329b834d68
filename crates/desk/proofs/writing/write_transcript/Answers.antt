use Rattle.std.proofs.Common.{rules, ◌≡◌, ◌+◌, ◌<◌, ◌∷◌, ◌++◌, ℕ, List, [], length, take, drop, take_all, take-append-drop}
use Rattle.terms_prelude.specs.Terms.{Statement}
use Rattle.numerals.specs.Lines.{line}
use Rattle.links.specs.Told.{has_written}
use Rattle.transcripts.specs.Lines.{head_line, transcript_text}
use Rattle.desk.proofs.Blocks.{all_out, breaks_within, puts_first, puts_one, shown_next}
use Rattle.desk.proofs.Holding.{loses_more}
use Rattle.desk.proofs.writing.write_transcript.Goals as goal

pub returns-in-Err-clause-err : goal.returns-in-Err-clause-err
returns-in-Err-clause-err g c = (
  c.in-Err.ensures.err.0,
  loses_more (has_written (g.S.Stream.told c.args.stream.now) c.args.held.now.items) (g.S.Stream.told c.make_room.new.stream)
      (line (transcript_text c.args.question c.args.transcript.now.bit c.args.transcript.now.heard.items)) c.in-Err.ensures.err.1,
)

pub loop-pair-init : goal.loop-pair-init
loop-pair-init g c =
    puts_first (has_written (g.S.Stream.told c.args.stream.now) c.args.held.now.items) (g.S.Stream.told c.make_room.new.stream)
    (line (head_line c.args.question c.args.transcript.now.bit (length c.args.transcript.now.heard.items)))
    c.make_room.new.held.items c.put_head.new.block.items c.in_default.ensures.same (search rules)

pub returns-in-Err-make_room-clause-err : goal.returns-in-Err-make_room-clause-err
returns-in-Err-make_room-clause-err g c =
    let pairs : List (ℕ × Statement) = c.args.transcript.now.heard.items in (
      c.in-Err-make_room.ensures.err.0,
      breaks_within (has_written (g.S.Stream.told c.args.stream.now) c.args.held.now.items) (g.S.Stream.told c.loop-pair.stream) (g.S.Stream.told c.make_room-in-loop-pair.new.stream)
          c.args.question c.args.transcript.now.bit pairs (take c.loop-pair.pair-index pairs) (drop c.loop-pair.pair-index pairs) c.loop-pair.held.items
          c.loop-pair.invariant (take-append-drop c.loop-pair.pair-index pairs) c.in-Err-make_room.ensures.err.1,
    )

pub loop-pair-preserved : goal.loop-pair-preserved
loop-pair-preserved g c =
    let pairs : List (ℕ × Statement) = c.args.transcript.now.heard.items in
    let i = c.loop-pair.pair-index in
    let within : i < length pairs = search rules in
    let next : take (i + 1) pairs ≡ take i pairs ++ c.pair-item.result ∷ [] = shown_next pairs i c.pair-item.result (search (rules, c.pair-item.is)) within in
    puts_one (has_written (g.S.Stream.told c.args.stream.now) c.args.held.now.items) (g.S.Stream.told c.loop-pair.stream) (g.S.Stream.told c.make_room-in-loop-pair.new.stream)
    (line (head_line c.args.question c.args.transcript.now.bit (length pairs))) c.loop-pair.held.items c.make_room-in-loop-pair.new.held.items c.put_pair.new.block.items
    (take i pairs) (take (i + 1) pairs) c.pair-item.result c.loop-pair.invariant c.in_default-make_room.ensures.same c.put_pair.ensures.items next

pub returns-clause-ok : goal.returns-clause-ok
returns-clause-ok g c =
    let pairs : List (ℕ × Statement) = c.args.transcript.now.heard.items in
    let all : take c.loop-pair.pair-index pairs ≡ pairs = take_all c.loop-pair.pair-index pairs (search rules) in
    all_out (has_written (g.S.Stream.told c.args.stream.now) c.args.held.now.items) (g.S.Stream.told c.loop-pair.stream) c.args.question c.args.transcript.now.bit pairs
    (take c.loop-pair.pair-index pairs) c.loop-pair.held.items c.loop-pair.invariant all
