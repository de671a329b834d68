-- What the readers of a welcome and a hello answer is true of the bytes.
use Rattle.std.proofs.Common.{ℕ, zero, suc, ◌≡◌, ◌-◌, ◌/◌, ◌%◌, ◌<◌, ◌≤◌, List, [], ◌∷◌, ◌++◌, length, drop, Result, refl, sym, ap, subst, ◌∙◌, append_assoc, arith, append-nil, drop_at}
use Rattle.std.specs.Int.{w64, to_be_bytes, from_be_bytes}
use Rattle.terms_prelude.specs.Terms.{Size, IsSize}
use Rattle.wire.specs.Words.{Message, Stop, Version, BadHello, frame_bytes, Fits, version_byte, AreBytes, BeginsFrame, IsPartial, ◌>>=◌, byte_at, version_from, welcome_at, hello_at}
use Rattle.wire.specs.declared.message.Message.TheVariants as message
use Rattle.wire.specs.declared.message.Version.TheVariants as version
use Rattle.wire.proofs.Telling.{Tells, IsMessage, In, step, step_number, number_back, number_below}
use Rattle.wire.proofs.Several.{cell, first, says}

-- what stands in a welcome behind its type
pub welcome_tells : (size : Size) (bytes : List ℕ) → AreBytes bytes → Tells size (0 ∷ 9 ∷ 2 ∷ bytes) (welcome_at bytes)
unfolding welcome_at
welcome_tells size bytes fits =
    step_number size (IsMessage size) (0 ∷ 9 ∷ 2 ∷ []) _ bytes fits
    (λ c len are. record {
      message = message.Welcome (from_be_bytes w64 c);
      fits = number_below c are;
      more = [];
      whole = ap (λ (t : List ℕ). 0 ∷ 9 ∷ 2 ∷ t) (number_back c len are ∙ sym (append-nil c));
    })
    (λ c rest len are fits2. (number_below c are, ap (λ (t : List ℕ). 0 ∷ 9 ∷ 2 ∷ (t ++ rest)) (sym (number_back c len are))))

-- the byte of the version of a byte
pub version_back : (v : ℕ) → In 1 v 2 → version_byte (version_from v) ≡ v
version_back zero h = absurd (omega arith)
version_back (suc zero) h = refl
version_back (suc (suc zero)) h = refl
version_back (suc (suc (suc v))) h = absurd (omega arith)

-- the byte of a version is one's
version_in : (v : Version) → In 1 (version_byte v) 2
version_in version.One = (omega arith, omega arith)
version_in version.Two = (omega arith, omega arith)

-- what stands behind the cluster's number
abbrev tail_of : Size → ℕ → ℕ → List ℕ
tail_of size from to = size.n ∷ size.t ∷ size.questions / 256 ∷ size.questions % 256 ∷ from ∷ to ∷ []

-- the hello of these bytes
abbrev made : Size → ℕ → List ℕ → ℕ → ℕ → Message
made size v c from to = message.Hello (version_from v) (from_be_bytes w64 c) size from to

-- its text is these bytes
made_text : (size : Size) (v : ℕ) (c : List ℕ) (from to : ℕ) → IsSize size → In 1 v 2 → length c ≡ 8 → AreBytes c
    → frame_bytes (made size v c from to) ≡ 0 ∷ 16 ∷ 1 ∷ v ∷ (c ++ tail_of size from to)
made_text size v c from to lawful v_in len are =
    let few : size.questions ≤ 4096 = lawful.few in
    let high : size.questions / 256 % 256 ≡ size.questions / 256 = omega arith in
    ap (λ (w : ℕ). 0 ∷ 16 ∷ 1 ∷ w ∷ (to_be_bytes w64 (from_be_bytes w64 c) ++ size.n ∷ size.t ∷ size.questions / 256 % 256 ∷ size.questions % 256 ∷ from ∷ to ∷ [])) (version_back v v_in)
    ∙ ap (λ (t : List ℕ). 0 ∷ 16 ∷ 1 ∷ v ∷ (t ++ size.n ∷ size.t ∷ size.questions / 256 % 256 ∷ size.questions % 256 ∷ from ∷ to ∷ [])) (number_back c len are)
    ∙ ap (λ (y : ℕ). 0 ∷ 16 ∷ 1 ∷ v ∷ (c ++ size.n ∷ size.t ∷ y ∷ size.questions % 256 ∷ from ∷ to ∷ [])) high

-- a front that ends behind the number, and a message that goes on so
made_partial : (size : Size) (v : ℕ) (c tail : List ℕ) (from to next : ℕ) (more : List ℕ) → IsSize size → In 1 v 2 → length c ≡ 8 → AreBytes c → from < size.n → to < size.n
    → tail_of size from to ≡ tail ++ next ∷ more → IsPartial size (0 ∷ 16 ∷ 1 ∷ v ∷ (c ++ tail))
made_partial size v c tail from to next more lawful v_in len are is_from is_to e =
    record {
      message = made size v c from to;
      fits = (number_below c are, refl, is_from, is_to);
      next = next;
      more = more;
      whole = made_text size v c from to lawful v_in len are ∙ ap (λ (t : List ℕ). 0 ∷ 16 ∷ 1 ∷ v ∷ (c ++ t)) e ∙ ap (λ (t : List ℕ). 0 ∷ 16 ∷ 1 ∷ v ∷ t) (sym (append_assoc c tail (next ∷ more)));
    }

-- what begins a text of this type begins a hello
record Hello (size : Size) (c : List ℕ) : Type 0 where
  version : Version
  cluster : ℕ
  from : ℕ
  to : ℕ
  is_from : from < size.n
  is_to : to < size.n
  whole : version_byte version ∷ (to_be_bytes w64 cluster ++ tail_of size from to) ≡ c

-- the text of that type is a hello's
is_hello : (size : Size) (m : Message) (h l : ℕ) (c : List ℕ) → IsSize size → Fits size m → frame_bytes m ≡ h ∷ l ∷ 1 ∷ c → Hello size c
is_hello size message.Idle h l c lawful fits e =
    let b = first _ _ _ _ (says size message.Idle h l (1 ∷ c) fits e).body_is in absurd (omega arith)
is_hello size (message.Hello version cluster its from to) h l c lawful fits e =
    let few : size.questions ≤ 4096 = lawful.few in
    let high : size.questions / 256 % 256 ≡ size.questions / 256 = omega arith in
    let all : version_byte version ∷ (to_be_bytes w64 cluster ++ its.n ∷ its.t ∷ its.questions / 256 % 256 ∷ its.questions % 256 ∷ from ∷ to ∷ []) ≡ c = ap (λ (t : List ℕ). drop 3 t) e in
    let same = ap (λ (s : Size). version_byte version ∷ (to_be_bytes w64 cluster ++ s.n ∷ s.t ∷ s.questions / 256 % 256 ∷ s.questions % 256 ∷ from ∷ to ∷ [])) fits.1 in
    record {
      version = version;
      cluster = cluster;
      from = from;
      to = to;
      is_from = fits.2;
      is_to = fits.3;
      whole = ap (λ (y : ℕ). version_byte version ∷ (to_be_bytes w64 cluster ++ size.n ∷ size.t ∷ y ∷ size.questions % 256 ∷ from ∷ to ∷ [])) (sym high) ∙ sym same ∙ all;
    }
is_hello size (message.Welcome next) h l c lawful fits e =
    let b = first _ _ _ _ (says size (message.Welcome next) h l (1 ∷ c) fits e).body_is in absurd (omega arith)
is_hello size (message.Statement s) h l c lawful fits e =
    let b = first _ _ _ _ (says size (message.Statement s) h l (1 ∷ c) fits e).body_is in absurd (omega arith)
is_hello size (message.Statements many) h l c lawful fits e =
    let b = first _ _ _ _ (says size (message.Statements many) h l (1 ∷ c) fits e).body_is in absurd (omega arith)

-- its bytes behind the number
tail_is : (size : Size) (v : ℕ) (c tail : List ℕ) (lawful : IsSize size) (len : length c ≡ 8) (b : BeginsFrame size (0 ∷ 16 ∷ 1 ∷ v ∷ (c ++ tail)))
    → (from : ℕ) × (to : ℕ) × (from < size.n) × (to < size.n) × (tail_of size from to ≡ tail ++ b.more)
tail_is size v c tail lawful len b =
    let h = is_hello size b.message 0 16 (v ∷ ((c ++ tail) ++ b.more)) lawful b.fits b.whole in
    let both : to_be_bytes w64 h.cluster ++ tail_of size h.from h.to ≡ c ++ (tail ++ b.more) = ap (λ (t : List ℕ). drop 1 t) h.whole ∙ append_assoc c tail b.more in
    let behind = ap (λ (t : List ℕ). drop 8 t) both in
    (h.from, h.to, h.is_from, h.is_to, behind ∙ drop_at c (tail ++ b.more) 8 len)

-- one byte further behind the number
step_tail : (size : Size) (v : ℕ) (c tail : List ℕ) (least most : ℕ) (k : ℕ × List ℕ → Result (Message × List ℕ) Stop) (bytes : List ℕ)
    → IsPartial size (0 ∷ 16 ∷ 1 ∷ v ∷ (c ++ tail)) → ((b : ℕ) → BeginsFrame size (0 ∷ 16 ∷ 1 ∷ v ∷ (c ++ (tail ++ b ∷ []))) → In least b most) → AreBytes bytes
    → ((b : ℕ) (rest : List ℕ) → In least b most → AreBytes rest → Tells size (0 ∷ 16 ∷ 1 ∷ v ∷ (c ++ ((tail ++ b ∷ []) ++ rest))) (k (b, rest)))
    → Tells size (0 ∷ 16 ∷ 1 ∷ v ∷ (c ++ (tail ++ bytes))) (byte_at least most BadHello bytes >>= k)
step_tail size v c tail least most k bytes partial range fits next =
    let W : List ℕ → Type 0 = λ t. Tells size (0 ∷ 16 ∷ 1 ∷ v ∷ t) (byte_at least most BadHello bytes >>= k) in
    let B : List ℕ → Type 0 = λ t. BeginsFrame size (0 ∷ 16 ∷ 1 ∷ v ∷ t) in
    subst W (append_assoc c tail bytes) (step size (IsMessage size) (0 ∷ 16 ∷ 1 ∷ v ∷ (c ++ tail)) least most BadHello k bytes partial
    (λ b h. range b (subst B (append_assoc c tail (b ∷ [])) h)) refl fits
    (λ b rest i are. let N : List ℕ → Type 0 = λ t. Tells size (0 ∷ 16 ∷ 1 ∷ v ∷ t) (k (b, rest)) in
    subst N (sym (append_assoc c (tail ++ b ∷ []) rest) ∙ ap (λ (t : List ℕ). t ++ rest) (sym (append_assoc c tail (b ∷ [])))) (next b rest i are)))

-- the same where there is one choice
step_tail_one : (size : Size) (v : ℕ) (c tail : List ℕ) (x : ℕ) (k : ℕ × List ℕ → Result (Message × List ℕ) Stop) (bytes : List ℕ)
    → IsPartial size (0 ∷ 16 ∷ 1 ∷ v ∷ (c ++ tail)) → ((b : ℕ) → BeginsFrame size (0 ∷ 16 ∷ 1 ∷ v ∷ (c ++ (tail ++ b ∷ []))) → x ≡ b) → AreBytes bytes
    → ((rest : List ℕ) → AreBytes rest → Tells size (0 ∷ 16 ∷ 1 ∷ v ∷ (c ++ ((tail ++ x ∷ []) ++ rest))) (k (x, rest)))
    → Tells size (0 ∷ 16 ∷ 1 ∷ v ∷ (c ++ (tail ++ bytes))) (byte_at x x BadHello bytes >>= k)
step_tail_one size v c tail x k bytes partial one fits next =
    step_tail size v c tail x x k bytes partial (λ b h. let e = one b h in (omega arith, omega arith)) fits
    (λ b rest i are. let e : x ≡ b = omega arith in
    let P : ℕ → Type 0 = λ y. Tells size (0 ∷ 16 ∷ 1 ∷ v ∷ (c ++ ((tail ++ y ∷ []) ++ rest))) (k (y, rest)) in subst P e (next rest are))

-- eight zeros are bytes
zeros : AreBytes (0 ∷ 0 ∷ 0 ∷ 0 ∷ 0 ∷ 0 ∷ 0 ∷ 0 ∷ [])
zeros = (omega arith, (omega arith, (omega arith, (omega arith, (omega arith, (omega arith, (omega arith, (omega arith, tt))))))))

-- what stands in a hello behind its type: each byte is in its range, or it is the fault
pub hello_tells : (size : Size) (bytes : List ℕ) → IsSize size → AreBytes bytes → Tells size (0 ∷ 16 ∷ 1 ∷ bytes) (hello_at size bytes)
unfolding hello_at
hello_tells size bytes lawful fits =
    let n : 0 < size.n = lawful.some in
    let none : List ℕ = 0 ∷ 0 ∷ 0 ∷ 0 ∷ 0 ∷ 0 ∷ 0 ∷ 0 ∷ [] in
    let high : ℕ = size.questions / 256 in
    let low : ℕ = size.questions % 256 in
    let rest0 : List ℕ = none ++ tail_of size 0 0 in
    step size (IsMessage size) (0 ∷ 16 ∷ 1 ∷ []) 1 2 BadHello _ bytes
    (record { message = made size 1 none 0 0; fits = (number_below none zeros, refl, n, n); next = 1; more = rest0; whole = made_text size 1 none 0 0 lawful (omega arith, omega arith) refl zeros })
    (λ b h. let w = is_hello size h.message 0 16 (b ∷ h.more) lawful h.fits h.whole in let e : version_byte w.version ≡ b = cell 0 _ _ w.whole in let i = version_in w.version in (omega (arith, i), omega (arith, i))) refl fits (λ v rest v_in fits2.
    step_number size (IsMessage size) (0 ∷ 16 ∷ 1 ∷ v ∷ []) _ rest fits2
    (λ c len are. record { message = made size v c 0 0; fits = (number_below c are, refl, n, n); more = tail_of size 0 0; whole = made_text size v c 0 0 lawful v_in len are })
    (λ c rest len are fits3.
    step_tail_one size v c [] size.n _ rest (made_partial size v c [] 0 0 size.n _ lawful v_in len are n n refl)
    (λ b h. let t = tail_is size v c (b ∷ []) lawful len h in cell 0 _ _ t.4) fits3 (λ rest fits4.
    step_tail_one size v c (size.n ∷ []) size.t _ rest (made_partial size v c (size.n ∷ []) 0 0 size.t _ lawful v_in len are n n refl)
    (λ b h. let t = tail_is size v c (size.n ∷ b ∷ []) lawful len h in cell 1 _ _ t.4) fits4 (λ rest fits5.
    step_tail_one size v c (size.n ∷ size.t ∷ []) high _ rest (made_partial size v c (size.n ∷ size.t ∷ []) 0 0 high _ lawful v_in len are n n refl)
    (λ b h. let t = tail_is size v c (size.n ∷ size.t ∷ b ∷ []) lawful len h in cell 2 _ _ t.4) fits5 (λ rest fits6.
    step_tail_one size v c (size.n ∷ size.t ∷ high ∷ []) low _ rest (made_partial size v c (size.n ∷ size.t ∷ high ∷ []) 0 0 low _ lawful v_in len are n n refl)
    (λ b h. let t = tail_is size v c (size.n ∷ size.t ∷ high ∷ b ∷ []) lawful len h in cell 3 _ _ t.4) fits6 (λ rest fits7.
    step_tail size v c (size.n ∷ size.t ∷ high ∷ low ∷ []) 0 (size.n - 1) _ rest (made_partial size v c (size.n ∷ size.t ∷ high ∷ low ∷ []) 0 0 0 _ lawful v_in len are n n refl)
    (λ b h. let t = tail_is size v c (size.n ∷ size.t ∷ high ∷ low ∷ b ∷ []) lawful len h in let e : t.0 ≡ b = cell 4 _ _ t.4 in let lt : t.0 < size.n = t.2 in (omega arith, omega arith)) fits7 (λ from rest from_in fits8.
    let is_from : from < size.n = omega arith in
    step_tail size v c (size.n ∷ size.t ∷ high ∷ low ∷ from ∷ []) 0 (size.n - 1) _ rest (made_partial size v c (size.n ∷ size.t ∷ high ∷ low ∷ from ∷ []) from 0 0 _ lawful v_in len are is_from n refl)
    (λ b h. let t = tail_is size v c (size.n ∷ size.t ∷ high ∷ low ∷ from ∷ b ∷ []) lawful len h in let e : t.1 ≡ b = cell 5 _ _ t.4 in let lt : t.1 < size.n = t.3 in (omega arith, omega arith)) fits8 (λ to rest to_in fits9.
    let is_to : to < size.n = omega arith in (
      (number_below c are, refl, is_from, is_to),
      ap (λ (t : List ℕ). 0 ∷ 16 ∷ 1 ∷ v ∷ t) (sym (append_assoc c (tail_of size from to) rest)) ∙ ap (λ (t : List ℕ). t ++ rest) (sym (made_text size v c from to lawful v_in len are)),
    )))))))))
