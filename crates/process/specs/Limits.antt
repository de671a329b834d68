-- How many files a member may have open.
use Rattle.std.specs.Prelude.{ℕ, ◌≡◌, ◌+◌, ◌-◌, ◌*◌, ◌/◌, min, max, Option, Some, None, List, ◌∷◌, ◌++◌, codes, IsSomeAnd}
use Rattle.std.specs.Fmt.{decimal}
use Rattle.numerals.specs.Numbers.{IsBelow}
use Rattle.numerals.specs.Spaces.{NoSpace}
use Rattle.commands.specs.TextLines.{lines_in}
use Rattle.process.specs.Status.{first_with}

-- the number that the first word writes, behind which a space stands
abbrev pub IsFirstNumber : List ℕ → ℕ → Type 0
IsFirstNumber text first = (digits behind : List ℕ) × (text ≡ digits ++ 32 ∷ behind) × NoSpace digits × IsBelow 64 digits first

-- the number behind the head of the first line on open files: the limit that holds
abbrev pub HasLimit : List ℕ → ℕ → Type 0
HasLimit limits limit = IsSomeAnd (first_with (codes "Max open files            ") (lines_in limits)) (λ rest. IsFirstNumber rest limit)

-- four for each member and thirteen more, and two for each client
abbrev pub wanted : ℕ → ℕ → ℕ
wanted n clients = 4 * n + 13 + 2 * clients

-- how many clients are let in at once: those for whom there are files, but one at least and 32 at most, and as many where no
-- limit is known
abbrev pub clients_within : Option ℕ → ℕ → ℕ
clients_within None n = 32
clients_within (Some limit) n = min 32 (max 1 ((limit - wanted n 0) / 2))

-- how many clients may follow decisions at once: as many as files are left for behind those of clients, but one at least and
-- 1,024 at most, and as many where no limit is known
abbrev pub followers_within : Option ℕ → ℕ → ℕ
followers_within None n = 1024
followers_within (Some limit) n = min 1024 (max 1 (limit - wanted n 32))

-- what is said where there are too few for one client
abbrev pub lack_text : ℕ → ℕ → List ℕ
lack_text limit links =
    codes "bracha: " ++ (decimal limit ++ (codes " open files are too few: the links want " ++ (decimal links ++ codes ", and each client 2\n")))

-- the least with which a member takes part that needs links with so many: four for each and twelve more, and as many as a member
-- alone wants
abbrev pub least_wanted : ℕ → ℕ
least_wanted needed = max (wanted 1 0) (4 * needed + 12)

-- what is told of fewer than that
abbrev pub starved_text : ℕ → ℕ → List ℕ
starved_text limit needed =
    decimal limit ++ (codes " are too few: this member wants " ++ (decimal (least_wanted needed)
    ++ codes " at least, and 2 for each client (`ulimit -n`)"))

-- what is said where there are enough for so many clients, but not for 32
abbrev pub fewer_text : ℕ → ℕ → ℕ → List ℕ
fewer_text limit links clients =
    codes "bracha: " ++ (decimal limit ++ (codes " open files are enough for " ++ (decimal clients ++ (codes " of 32 clients: the links want "
    ++ (decimal links ++ codes ", and each client 2\n")))))

-- what is said where there are enough for so many followers, but not for 1,024
abbrev pub followers_text : ℕ → ℕ → ℕ → List ℕ
followers_text limit links followers =
    codes "bracha: " ++ (decimal limit ++ (codes " open files are enough for " ++ (decimal followers
    ++ (codes " of 1024 followers: the links want " ++ (decimal links ++ codes ", each client 2 and each follower 1\n")))))
