-- The order in which a member is asked for questions.
use Rattle.std.specs.Prelude.{Bool, true, false, Option, Some, None}
use Rattle.gateway.specs.declared.standings.Standing.{Standing}
use Rattle.gateway.specs.declared.standings.Standing.TheVariants as standing
use Rattle.portal.specs.declared.ranks.Rank.{Rank}
use Rattle.portal.specs.declared.ranks.Rank.TheVariants as rank

-- the rank of a question: those under way come first, those that aren't, and of which a member told a decision, after them
abbrev pub rank_of : Standing → Bool → Option Rank
rank_of standing.Unproposed true = Some rank.Later
rank_of standing.Unproposed false = None
rank_of standing.Proposed is_told = Some rank.First
rank_of standing.Spent is_told = None
rank_of (standing.Decided bit) is_told = None
