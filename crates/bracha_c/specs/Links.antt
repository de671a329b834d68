-- What C is told of a link's bytes.
use Rattle.std.specs.Prelude.{ℕ, ℤ, ◌≡◌, List, [], ◌∷◌, ◌++◌, pos, negsuc, length, drop}
use Rattle.wire.specs.Feeding.{Feeds, answer_of, IsBroken}
use Rattle.wire.specs.declared.feeder.Fed.{Fed}
use Rattle.wire.specs.declared.feeder.Fed.TheVariants.{More, Broken}
use Rattle.wire.specs.declared.message.Message.{Message}
use Rattle.wire.specs.declared.message.Message.TheVariants as message
use Rattle.engine.specs.declared.inbox.Inbox.{Inbox}
use Rattle.engine.specs.Inboxes.{waiting, size_of, end_of, body_of}

-- of what a feeder answers
abbrev pub fed_status : Fed → ℤ
fed_status More = pos 0
fed_status (Broken fault) = negsuc 6

-- of a message: its type, where several statements are as one
abbrev pub message_status : Message → ℤ
message_status message.Idle = pos 0
message_status (message.Hello version cluster size from to) = pos 1
message_status (message.Welcome next) = pos 2
message_status (message.Statement s) = pos 3
message_status (message.Statements many) = pos 3

-- how many statements it has
abbrev pub statements_in : Message → ℕ
statements_in message.Idle = 0
statements_in (message.Hello version cluster size from to) = 0
statements_in (message.Welcome next) = 0
statements_in (message.Statement s) = 1
statements_in (message.Statements many) = length many

-- the piece was read, and how the bytes so far end was told
pub record FedAs (old new : Inbox) (piece : List ℕ) (status : ℤ) : Type 0 where
  pub feeds : Feeds (size_of old) (end_of old) piece (waiting old) (waiting new) (end_of new)
  pub status_is : status ≡ fed_status (answer_of (end_of new))

-- there was no memory, and nothing changed
pub record NotFed (old new : Inbox) (status : ℤ) : Type 0 where
  pub same_end : end_of new ≡ end_of old
  pub same : waiting new ≡ waiting old
  pub whole : IsBroken (end_of old) → ⊥
  pub status_is : status ≡ negsuc 2

-- the message that waited longest was taken out, and told
pub record TookOut (old new : Inbox) (status : ℤ) (count : ℕ) (before after : List ℕ) : Type 0 where
  pub taken : Message
  pub first : waiting old ≡ taken ∷ waiting new
  pub status_is : status ≡ message_status taken
  pub count_is : count ≡ statements_in taken
  pub body : after ≡ body_of taken ++ drop (length (body_of taken)) before

-- none waits
pub record TookNothing (old new : Inbox) (status : ℤ) (count : ℕ) (before after : List ℕ) : Type 0 where
  pub none : waiting old ≡ []
  pub none_still : waiting new ≡ []
  pub status_is : status ≡ negsuc 7
  pub count_is : count ≡ 0
  pub same : after ≡ before
