-- Where tosses stand.
use Rattle.rand_chacha.specs.ChaCha.{ChaCha}
use Rattle.engine.specs.declared.tosses.Tosses.{Tosses}

-- the key stream, at the word that comes next
abbrev pub stream_now : Tosses → ChaCha
stream_now tosses = tosses.tosser
