-- What a fair network does.
use Rattle.std.specs.Prelude.{ℕ, ◌+◌, ◌*◌, ◌-◌, ◌==◌, nat_lt, if◌then◌else◌, Bool, true, false, Option, Some, None, List, [], ◌∷◌, length, map, slice_index_or}
use Rattle.std.specs.List.{flat_map, remove}
use Rattle.terms_prelude.specs.Terms.{Size}
use Rattle.sim.specs.declared.events.Which.TheVariants.{Next}
use Rattle.script.specs.declared.fair.Link.{Link}
use Rattle.script.specs.declared.fair.Trouble.{Trouble}
use Rattle.script.specs.declared.fair.Sort.{Sort}
use Rattle.script.specs.declared.fair.Sort.TheVariants as sort
use Rattle.script.specs.Acts.{Act}
use Rattle.script.specs.Acts.Act.{Deliver, DeliverAll, Fuse, Crash, Restart}
use Rattle.script.specs.Drawing.{Drawn, pure, ◌>>=◌, below, calls, pick, lie_of, propose_to}

-- who takes part: the size, and the members that lie and those that don't, upwards
pub record Cast : Type 0 where
  pub size : Size
  pub liars : List ℕ
  pub correct : List ℕ

-- what stays between two events: the links that are left in the deck, and what is owed
pub record Network : Type 0 where
  pub deck : List Link
  pub owed : Option Trouble

-- before the first event
abbrev pub fresh : Network
fresh = record { deck = []; owed = None }

-- the links from a member to these
abbrev pub links_from : ℕ → List ℕ → List Link
links_from from members = map (λ to. record { from = from; to = to }) members

-- the links between these members, by sender and then by receiver
abbrev pub links : List ℕ → List Link
links members = flat_map (λ from. links_from from members) members

-- the deck, or a new one where it is empty
abbrev pub filled : List ℕ → List Link → List Link
filled correct [] = links correct
filled correct (link ∷ deck) = link ∷ deck

-- one of these members
unfoldable pub one_of : List ℕ → Drawn ℕ
one_of members = do
  place ← below (length members)
  pure (slice_index_or members place 0)

-- what stands at a place that there is not
abbrev pub no_link : Link
no_link = record { from = 0; to = 0 }

-- a link, and the deck without it
unfoldable pub deal : List Link → Drawn (Link × List Link)
deal deck = do
  place ← below (length deck)
  pure (slice_index_or deck place no_link, remove deck place)

-- what is owed now, where so many events of the line are left, this one among them
abbrev pub due : ℕ → Option Trouble → Option Act
due left None = None
due left (Some trouble) =
    if left == trouble.crash then Some (Crash trouble.member trouble.pick)
    else (if left == trouble.restart then Some (Restart trouble.member) else None)

-- what is owed behind it
abbrev pub still_owed : ℕ → Option Trouble → Option Trouble
still_owed left None = None
still_owed left (Some trouble) = if left == trouble.restart then None else Some trouble

-- whether there may be trouble: nothing is owed, and all that it owes comes before the line's end
abbrev pub is_quiet : ℕ → Option Trouble → Bool
is_quiet left None = nat_lt 100 left
is_quiet left (Some trouble) = false

-- of which sort an event is whose kind, below 16n for n members, was drawn
abbrev pub sort_of : ℕ → ℕ → Bool → Bool → Sort
sort_of n kind quiet lying =
    if kind == 0 then (if quiet then sort.Trouble else sort.Delivery)
    else (if kind == 1 then sort.Proposal
    else (if nat_lt n kind then sort.Delivery
    else (if lying then sort.Lie else sort.Delivery)))

-- whether there is one
abbrev pub has_some : List ℕ → Bool
has_some [] = false
has_some (member ∷ members) = true

-- trouble at a correct member: a fuse now, a crash some events later, and some behind that a restart
abbrev pub trouble : List ℕ → ℕ → Network → Drawn (Act × Network)
trouble correct left network = do
  member ← one_of correct
  its_calls ← calls
  its_pick ← pick
  early ← below 50
  late ← below 50
  pure (
    Fuse member its_calls,
    record { deck = network.deck; owed = Some (record { member = member; pick = its_pick; crash = left - (early + 1); restart = left - (early + 1) - (late + 1) }) },
  )

-- a liar's statement to a correct member
abbrev pub lie : Cast → Drawn Act
lie cast = do
  liar ← one_of cast.liars
  to ← one_of cast.correct
  lie_of cast.size liar to

-- a proposal to a correct member
abbrev pub proposal : Cast → Drawn Act
proposal cast = do
  member ← one_of cast.correct
  propose_to cast.size member

-- what comes on the link: so many of its next statements as a group, or the next one
abbrev pub on_link : Link → Drawn Act
on_link link = do
  more ← below 288
  pure (if nat_lt more 256 then DeliverAll link.from link.to (more + 1) else Deliver link.from link.to Next)

-- a delivery on the next link of the deck
abbrev pub delivery : List ℕ → Network → Drawn (Act × Network)
delivery correct network = do
  dealt ← deal (filled correct network.deck)
  act ← on_link dealt.0
  pure (act, record { deck = dealt.1; owed = network.owed })

-- an event that leaves the network as it is
abbrev pub as_it_was : Network → Drawn Act → Drawn (Act × Network)
as_it_was network act = do
  its_act ← act
  pure (its_act, network)

-- an event of a sort
abbrev pub of_sort : Cast → ℕ → Network → Sort → Drawn (Act × Network)
of_sort cast left network sort.Trouble = trouble cast.correct left network
of_sort cast left network sort.Lie = as_it_was network (lie cast)
of_sort cast left network sort.Proposal = as_it_was network (proposal cast)
of_sort cast left network sort.Delivery = delivery cast.correct network

-- a drawn event, where nothing is owed now
abbrev pub drawn_event : Cast → ℕ → Network → Drawn (Act × Network)
drawn_event cast left network = do
  kind ← below (16 * cast.size.n)
  of_sort cast left network (sort_of cast.size.n kind (is_quiet left network.owed) (has_some cast.liars))

-- what is owed now, or else a drawn event
abbrev pub due_or_drawn : Cast → ℕ → Network → Option Act → Drawn (Act × Network)
due_or_drawn cast left network (Some act) = pure (act, record { deck = network.deck; owed = still_owed left network.owed })
due_or_drawn cast left network None = drawn_event cast left network

-- an event, where so many of the line are left, this one among them: without a correct member a restart that is skipped
unfoldable pub event : Cast → ℕ → Network → Drawn (Act × Network)
event cast left network =
    if has_some cast.correct then due_or_drawn cast left network (due left network.owed) else pure (Restart 0, network)
