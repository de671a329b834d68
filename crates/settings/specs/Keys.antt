-- The keys of the settings.
use Rattle.std.specs.Prelude.{ℕ, List, codes}
use Rattle.settings.specs.declared.keys.Key.{Key}
use Rattle.settings.specs.declared.keys.Key.TheVariants.{Cluster, N, T, Questions, Me, Journal, Peers, Desk, Seed, Listen, DeskSocket, Epochs, Desks, Chain}

-- the bytes of a key
abbrev pub key_text : Key → List ℕ
key_text Cluster = codes "cluster"
key_text N = codes "n"
key_text T = codes "t"
key_text Questions = codes "questions"
key_text Me = codes "me"
key_text Journal = codes "journal"
key_text Peers = codes "peers"
key_text Desk = codes "desk"
key_text Seed = codes "seed"
key_text Listen = codes "listen"
key_text DeskSocket = codes "desk-socket"
key_text Epochs = codes "epochs"
key_text Desks = codes "desks"
key_text Chain = codes "chain"
