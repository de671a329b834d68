-- What a link reads.
use Rattle.std.specs.Prelude.{ℕ, ◌≡◌, Bool, true, false, List, [], ◌∷◌}
use Rattle.std.specs.List.{flat_map}
use Rattle.terms_prelude.specs.Terms.{Size, Statement}
use Rattle.wire.specs.declared.message.Message.{Message}
use Rattle.wire.specs.declared.message.Message.TheVariants as message
use Rattle.wire.specs.Reading.{End, Rest, Broken}
use Rattle.wire.specs.Feeding.{Feeds}

-- a link: how many statements it has delivered by its own place, and how the bytes end that it was fed
pub record LinkFields : Type 0 where
  pub place : ℕ
  pub size : Size
  pub end : End

-- a byte came that no frame has there
abbrev pub is_broken_at : End → Bool
is_broken_at (Rest rest) = false
is_broken_at (Broken fault) = true

-- the statements of a message, in order
abbrev pub statements_of : Message → List Statement
statements_of (message.Statement s) = s ∷ []
statements_of (message.Statements many) = many
statements_of message.Idle = []
statements_of (message.Hello version cluster size from to) = []
statements_of (message.Welcome next) = []

-- the statements among the messages, in order
abbrev pub statements_in : List Message → List Statement
statements_in messages = flat_map statements_of messages

-- the message of statements that go together: one alone goes as a statement
abbrev pub message_of : List Statement → Message
message_of [] = message.Statements []
message_of (s ∷ []) = message.Statement s
message_of (s ∷ next ∷ more) = message.Statements (s ∷ next ∷ more)

-- the bytes, behind what a link holds, are these statements, with other messages between them, and end so
abbrev pub ReadsBytes : Size → End → List ℕ → List Statement → End → Type 0
ReadsBytes size end bytes statements last =
    (messages : List Message) × Feeds size end bytes [] messages last × (statements ≡ statements_in messages)
