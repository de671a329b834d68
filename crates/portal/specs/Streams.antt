-- What a follower is sent next.
use Rattle.std.specs.Prelude.{ℕ, ◌≡◌, List}
use Rattle.portal.specs.declared.streaming.Chunk.{Chunk}

-- these bytes, and the number from which it goes on
pub record IsChunk (chunk : Chunk) (bytes : List ℕ) (number : ℕ) : Type 0 where
  pub bytes_are : chunk.bytes.items ≡ bytes
  pub number_is : chunk.number ≡ number
