-- The Hello that greeted.
use Rattle.std.proofs.Common.{ℕ, ◌≡◌, ◌∙◌, sym, subst}
use Rattle.terms_prelude.specs.Terms.{Header}
use Rattle.wire.specs.declared.message.Version.{Version}
use Rattle.wire.specs.Texts.{frame_bytes}
use Rattle.links.specs.Greeting.{hello_from}
use Rattle.links.specs.Told.{Told, has_read}

-- the Hello of the sender, to this hub's member
pub greeted_by : (old new : Told) (hub header : Header) (version v : Version) (sender p : ℕ) → header ≡ hub → v ≡ version → p ≡ sender
    → new ≡ has_read old (frame_bytes (hello_from header v p)) → new ≡ has_read old (frame_bytes (hello_from hub version sender))
greeted_by old new hub header version v sender p h e s is =
    subst (λ (x : Header). new ≡ has_read old (frame_bytes (hello_from x version sender))) h
    (subst (λ (x : Version). new ≡ has_read old (frame_bytes (hello_from header x sender))) e
    (subst (λ (x : ℕ). new ≡ has_read old (frame_bytes (hello_from header v x))) s is))
