-- Bytes that are the frame of a statement.
use Rattle.std.proofs.Common.{ℕ, suc, ◌≡◌, ◌+◌, Some, List, [], ◌∷◌, ◌++◌, length, slice_get, refl, sym, ap, subst, ◌∙◌, arith, length-append}
use Rattle.std.specs.List.{flat_map}
use Rattle.terms_prelude.specs.Terms.{Statement, Size, IsSize}
use Rattle.wire.specs.declared.message.Message.{Message}
use Rattle.wire.specs.declared.message.Message.TheVariants as message
use Rattle.wire.specs.Words.{frame_body, frame_bytes, Fits, ReadsMessages, End, Rest, Broken, Ends, IsPartial, Took, Feeds}
use Rattle.wire.proofs.Unique.{reads_once}
use Rattle.report.specs.Charts.{IsFrameOf}

empty_of : (l : List ℕ) → length l ≡ 0 → l ≡ []
empty_of [] h = refl
empty_of (x ∷ l) h = absurd (omega (arith, h))

-- a frame is the two bytes of its length, and the body
sized : (m : Message) → length (frame_bytes m) ≡ suc (suc (length (frame_body m)))
sized m = refl

-- no message has no bytes
alone : (ms : List Message) → flat_map frame_bytes ms ≡ [] → ms ≡ []
alone [] h = refl
alone (m ∷ ms) h = absurd (omega (arith, ap length h, length-append (frame_bytes m) (flat_map frame_bytes ms), sized m))

long : (s : Statement) → length (frame_bytes (message.Statement s)) ≡ 10
long s = refl

-- nothing is left behind it
ends_there : (size : Size) (end : End) → Ends size [] end → Ends size [] (Rest [])
ends_there size (Rest rest) e = (refl, subst (λ (r : List ℕ). IsPartial size r) (sym e.0) e.1)
ends_there size (Broken fault) e = absurd (omega (arith, ap length e.whole, length-append e.front (e.byte ∷ e.after)))

-- ten bytes whose first message is a statement are its frame
pub is_frame : (size : Size) (bytes : List ℕ) (out : List Message) (end : End) (s : Statement) → Took size bytes [] out end
    → length bytes ≡ 10 → slice_get out 0 ≡ Some (message.Statement s) → IsFrameOf size bytes s
is_frame size bytes out end s took ten first = go took.0 took.1 (subst (λ (l : List Message). slice_get l 0 ≡ Some (message.Statement s)) took.2 first)
  where
    go : (ms : List Message) → ReadsMessages size bytes ms end → slice_get ms 0 ≡ Some (message.Statement s) → IsFrameOf size bytes s
    go [] r f = cc
    go (m ∷ ms) r f =
        let is : m ≡ message.Statement s = cc in
        let rest : length (flat_map frame_bytes ms) + length r.others ≡ 0 =
        omega (arith, ap length r.whole, length-append (frame_bytes m ++ flat_map frame_bytes ms) r.others, length-append (frame_bytes m) (flat_map frame_bytes ms), ap (λ (x : Message). length (frame_bytes x)) is, long s, ten) in
        let none : ms ≡ [] = alone ms (empty_of (flat_map frame_bytes ms) (omega (arith, rest))) in
        let nothing : r.others ≡ [] = empty_of r.others (omega (arith, rest)) in
        record {
          each = (subst (λ (x : Message). Fits size x) is r.each.0, tt);
          others = [];
          whole = r.whole ∙ ap (λ (l : List ℕ). flat_map frame_bytes (m ∷ ms) ++ l) nothing ∙ ap (λ (l : List Message). flat_map frame_bytes (m ∷ l) ++ []) none
              ∙ ap (λ (x : Message). flat_map frame_bytes (x ∷ []) ++ []) is;
          ends = ends_there size end (subst (λ (l : List ℕ). Ends size l end) nothing r.ends);
        }

-- other ten bytes are of none
pub no_frame : (size : Size) (bytes : List ℕ) (out : List Message) (end : End) (s : Statement) → IsSize size → Took size bytes [] out end
    → IsFrameOf size bytes s → slice_get out 0 ≡ Some (message.Statement s)
no_frame size bytes out end s ok took frame =
    let same = reads_once size bytes took.0 (message.Statement s ∷ []) end (Rest []) ok took.1 frame in
    ap (λ (l : List Message). slice_get l 0) (took.2 ∙ same.0)

-- what a new feeder took
pub took_of : (size its : Size) (end last : End) (bytes : List ℕ) (old new seen : List Message) → Feeds its end bytes old new last
    → its ≡ size → end ≡ Rest [] → old ≡ [] → seen ≡ new → Took size bytes [] seen last
took_of size its end last bytes old new seen feeds same begun none all =
    subst (λ (l : List Message). Took size bytes [] l last) (sym all)
    (subst (λ (l : List Message). Took size bytes l new last) none
    (subst (λ (e : End). Feeds size e bytes old new last) begun
    (subst (λ (z : Size). Feeds z end bytes old new last) same feeds)))

-- bytes are the frame of one statement at most
pub one_frame : (size : Size) (bytes : List ℕ) (s other : Statement) → IsSize size → IsFrameOf size bytes s → IsFrameOf size bytes other → s ≡ other
one_frame size bytes s other ok one two =
    let same = reads_once size bytes (message.Statement s ∷ []) (message.Statement other ∷ []) (Rest []) (Rest []) ok one two in
    let list : (message.Statement s ∷ []) ≡ (message.Statement other ∷ []) = same.0 in
    cc
