-- What an inbox holds, and what is told of a message.
use Rattle.std.specs.Prelude.{ℕ, List, [], ◌++◌, drop, reverse}
use Rattle.terms_prelude.specs.Terms.{Size}
use Rattle.statement_codec.specs.Statements.{statement_bytes}
use Rattle.wire.specs.Reading.{End}
use Rattle.wire.specs.Texts.{frame_body, statements_bytes}
use Rattle.wire.specs.declared.message.Message.{Message}
use Rattle.wire.specs.declared.message.Message.TheVariants as message
use Rattle.engine.specs.declared.inbox.Inbox.{Inbox}

-- the messages that wait, the first one first
abbrev pub waiting : Inbox → List Message
waiting inbox = reverse inbox.first.items ++ inbox.read.items

-- the size whose messages it reads
abbrev pub size_of : Inbox → Size
size_of inbox = inbox.feeder.size

-- how the bytes so far ended
abbrev pub end_of : Inbox → End
end_of inbox = inbox.feeder.end

-- what stands behind a message's type, and of statements the bytes of each
abbrev pub body_of : Message → List ℕ
body_of message.Idle = []
body_of (message.Hello version cluster size from to) = drop 1 (frame_body (message.Hello version cluster size from to))
body_of (message.Welcome next) = drop 1 (frame_body (message.Welcome next))
body_of (message.Statement s) = statement_bytes s
body_of (message.Statements many) = statements_bytes many
