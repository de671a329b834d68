-- Which frame the bytes of statements have.
use Rattle.std.specs.Prelude.{ℕ, ◌≡◌, ◌≢◌, ◌≤◌, List, [], ◌∷◌, ◌++◌, length, drop}
use Rattle.terms_prelude.specs.Terms.{Statement}
use Rattle.wire.specs.Texts.{frame_bytes, statements_bytes}
use Rattle.wire.specs.declared.message.Message.{Message}
use Rattle.wire.specs.declared.message.Message.TheVariants as message
use Rattle.engine.specs.Texts.{AreStatements}

-- the message of statements: one goes alone, and several go together
abbrev pub message_of : List Statement → Message
message_of [] = message.Statements []
message_of (s ∷ []) = message.Statement s
message_of (s ∷ next ∷ more) = message.Statements (s ∷ next ∷ more)

-- The bytes are those of 1 to 99 statements; their frame has so many bytes, which stand in front, and the rest is as it was.
pub record IsFrameOf (bytes : List ℕ) (count : ℕ) (old new : List ℕ) : Type 0 where
  pub statements : List Statement
  pub lawful : AreStatements statements
  pub bytes_are : bytes ≡ statements_bytes statements
  pub some : 1 ≤ length statements
  pub few : length statements ≤ 99
  pub count_is : count ≡ length (frame_bytes (message_of statements))
  pub written : new ≡ frame_bytes (message_of statements) ++ drop (length (frame_bytes (message_of statements))) old

-- no 1 to 99 statements have these bytes
abbrev pub IsNoFrame : List ℕ → Type 0
IsNoFrame bytes = (statements : List Statement) → AreStatements statements → 1 ≤ length statements → length statements ≤ 99
    → bytes ≢ statements_bytes statements
