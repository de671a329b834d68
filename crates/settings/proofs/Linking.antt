-- The links of a new cluster's members, one after another.
use Rattle.std.proofs.Common.{ℕ, ◌≡◌, ◌∙◌, ◌+◌, ◌<◌, ◌≤◌, None, Some, List, [], ◌∷◌, ◌++◌, arith, ap, refl, sym, subst, length, take, get_or, zero, suc}
use Rattle.std.specs.Borrow.{Bor}
use Rattle.std.proofs.Math.Seq.{take-suc}
use Rattle.std.proofs.lemmas.List.{length-map, length-take-le, map-append}
use Rattle.numerals.specs.Sentences.{texts}
use Rattle.settings.specs.Addresses.{IsHost}
use Rattle.settings.specs.Clusters.{AreInRow}
use Rattle.settings.specs.declared.address.Address.{Address}

-- one host and its link more
pub one_more : (port : ℕ) (hosts : List (List ℕ)) (links : List Address) (host : List ℕ) (link : Address) → AreInRow port hosts links
    → IsHost host link.octets → link.port ≡ port + length links → AreInRow port (hosts ++ host ∷ []) (links ++ link ∷ [])
one_more port [] [] host link are is_host at = (is_host, omega (arith, at), tt)
one_more port [] (other ∷ links) host link are is_host at = absurd are
one_more port (other ∷ hosts) [] host link are is_host at = absurd are
one_more port (other ∷ hosts) (own ∷ links) host link are is_host at =
    (are.0, are.1, one_more _ hosts links host link are.2 is_host (omega (arith, at)))

-- the next host of a list and its link
pub next_link : (first : ℕ) (hosts : List (Bor (List ℕ))) (i : ℕ) (d : Bor (List ℕ)) (links : List Address) (link : Address) (count : ℕ) → i < length hosts
    → AreInRow first (texts (take i hosts)) links → IsHost (get_or hosts i d).now link.octets → link.port ≡ first + count → count ≡ length links
    → AreInRow first (texts (take (i + 1) hosts)) (links ++ link ∷ [])
next_link first hosts i d links link count within are is_host at as_many =
    let host = get_or hosts i d in
    let e : suc i ≡ i + 1 = omega arith in
    let step : take (i + 1) hosts ≡ take i hosts ++ host ∷ [] = subst (λ k. take k hosts ≡ take i hosts ++ host ∷ []) e (take-suc hosts i d within) in
    let words : texts (take (i + 1) hosts) ≡ texts (take i hosts) ++ host.now ∷ [] = ap texts step ∙ map-append (λ (word : Bor (List ℕ)). word.now) (take i hosts) (host ∷ []) in
    subst (λ (ws : List (List ℕ)). AreInRow first ws (links ++ link ∷ [])) (sym words)
    (one_more first (texts (take i hosts)) links host.now link are is_host (omega (arith, at, as_many)))

-- nothing is no host
pub never : {A B : Type 0} (x : A) → None ≡ Some x → B
never x e = absurd (cc)

-- the host at a place has octets
pub host_at : (port : ℕ) (hosts : List (Bor (List ℕ))) (i : ℕ) (d : Bor (List ℕ)) (links : List Address) → i < length hosts → AreInRow port (texts hosts) links
    → (octets : List ℕ) × IsHost (get_or hosts i d).now octets
host_at port [] i d links within are = absurd (omega (arith, within))
host_at port (host ∷ hosts) i d [] within are = absurd are
host_at port (host ∷ hosts) zero d (link ∷ links) within are = (link.octets, are.0)
host_at port (host ∷ hosts) (suc i) d (link ∷ links) within are = host_at (suc port) hosts i d links (omega (arith, within)) are.2

-- there are as many as hosts
pub as_many : (port : ℕ) (hosts : List (List ℕ)) (links : List Address) → AreInRow port hosts links → length links ≡ length hosts
as_many port [] [] are = refl
as_many port [] (link ∷ links) are = absurd are
as_many port (host ∷ hosts) [] are = absurd are
as_many port (host ∷ hosts) (link ∷ links) are = ap suc (as_many (suc port) hosts links are.2)

-- so the next host's port is one
pub within_ports : (first : ℕ) (hosts : List (Bor (List ℕ))) (i : ℕ) (links : List Address) (count : ℕ) → i < length hosts → first + length hosts ≤ 65536
    → AreInRow first (texts (take i hosts)) links → count ≡ length links → first + count < 65536
within_ports first hosts i links count within fit are counted =
    let many : length links ≡ length (texts (take i hosts)) = as_many first (texts (take i hosts)) links are in
    let mapped : length (texts (take i hosts)) ≡ length (take i hosts) = length-map (take i hosts) (λ (word : Bor (List ℕ)). word.now) in
    let taken : length (take i hosts) ≡ i = length-take-le i hosts (omega (arith, within)) in
    omega (arith, many, mapped, taken, within, fit, counted)
