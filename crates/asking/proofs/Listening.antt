-- Where members listen, one after another.
use Rattle.std.proofs.Common.{ℕ, ◌≡◌, ◌+◌, ◌<◌, List, [], ◌∷◌, ◌++◌, take, length, get_or, sym, subst}
use Rattle.std.proofs.lemmas.List.{take_more}
use Rattle.std.specs.declared.net.socket_addr.SocketAddr.{SocketAddr}
use Rattle.settings.specs.declared.address.Address.{Address}
use Rattle.asking.specs.Sockets.{AreSocketsOf, IsSocketOf}

-- one address more
one_more : (addresses : List Address) (sockets : List SocketAddr) (address : Address) (socket : SocketAddr)
    → AreSocketsOf addresses sockets → IsSocketOf address socket → AreSocketsOf (addresses ++ address ∷ []) (sockets ++ socket ∷ [])
one_more [] [] address socket are is = (is, tt)
one_more [] (other ∷ sockets) address socket are is = absurd are
one_more (other ∷ addresses) [] address socket are is = absurd are
one_more (other ∷ addresses) (one ∷ sockets) address socket (first, rest) is = (first, one_more addresses sockets address socket rest is)

-- the next one of a list
pub next_is : (addresses : List Address) (i : ℕ) (none : Address) (sockets new : List SocketAddr) (socket : SocketAddr) → i < length addresses
    → AreSocketsOf (take i addresses) sockets → IsSocketOf (get_or addresses i none) socket → new ≡ sockets ++ socket ∷ []
    → AreSocketsOf (take (i + 1) addresses) new
next_is addresses i none sockets new socket within are is pushed =
    subst (λ (all : List Address). AreSocketsOf all new) (sym (take_more addresses i none within))
    (subst (AreSocketsOf (take i addresses ++ get_or addresses i none ∷ [])) (sym pushed) (one_more (take i addresses) sockets (get_or addresses i none) socket are is))
