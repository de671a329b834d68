-- What a request must have, beside its path, to be answered or to propose.
use Rattle.std.specs.Prelude.{ℕ, ◌≡◌, ◌⊎◌, true, false, List, [], ◌++◌, codes}
use Rattle.numerals.specs.Numbers.{IsBelow}
use Rattle.gateway.specs.declared.guards.Policy.{Policy}

-- the host is this name with the port
abbrev pub IsHost : List ℕ → ℕ → List ℕ → Type 0
IsHost name port host = (digits : List ℕ) × (host ≡ name ++ digits) × IsBelow 16 digits port

-- the host is one of this machine's own names with the port
abbrev pub IsPortHost : ℕ → List ℕ → Type 0
IsPortHost port host =
    IsHost (codes "127.0.0.1:") port host ⊎ (IsHost (codes "localhost:") port host ⊎ IsHost (codes "[::1]:") port host)

-- the host is one of these names alone
abbrev pub IsBareHost : List ℕ → Type 0
IsBareHost host = (host ≡ codes "127.0.0.1") ⊎ ((host ≡ codes "localhost") ⊎ (host ≡ codes "[::1]"))

-- a browser leaves out the port of HTTP, which is 80
abbrev pub IsBareLocalHost : ℕ → List ℕ → Type 0
IsBareLocalHost port host = (port ≡ 80) × IsBareHost host

-- the host is one of this machine's own names
abbrev pub IsLocalHost : ℕ → List ℕ → Type 0
IsLocalHost port host = IsPortHost port host ⊎ IsBareLocalHost port host

-- a gateway at a loopback address takes these names alone: under another name a page of somebody else may lead here
abbrev pub IsOwnHost : Policy → List ℕ → Type 0
IsOwnHost policy host = (policy.local ≡ false) ⊎ IsLocalHost policy.port host

-- no page sent the request, or a page from this host did
abbrev pub IsOwnOrigin : List ℕ → List ℕ → Type 0
IsOwnOrigin host origin = (origin ≡ []) ⊎ ((origin ≡ codes "http://" ++ host) ⊎ (origin ≡ codes "https://" ++ host))

-- a proposal is taken at all: there is a token, or the gateway listens at a loopback address
abbrev pub TakesProposals : Policy → Type 0
TakesProposals policy = (policy.local ≡ true) ⊎ (policy.token.now ≡ [] → ⊥)

-- the token, if there is one, is shown
abbrev pub ShowsToken : List ℕ → List ℕ → Type 0
ShowsToken token authorization = (token ≡ []) ⊎ (authorization ≡ codes "Bearer " ++ token)

-- the body is said to be JSON
abbrev pub IsJsonType : List ℕ → Type 0
IsJsonType type = (type ≡ codes "application/json") ⊎ ((rest : List ℕ) × (type ≡ codes "application/json;" ++ rest))
