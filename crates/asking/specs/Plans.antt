-- How all members of a cluster are asked, or have a bit proposed.
use Rattle.std.specs.Prelude.{ℕ, ◌≡◌, Option, Some, if◌then◌else◌, string_bytes, unwrap_or}
use Rattle.commands.specs.Talks.{ask_line, await_line, propose_line}
use Rattle.asking.specs.declared.asking_all.Motion.{Motion}
use Rattle.asking.specs.declared.asking_all.Plan.{Plan}
use Rattle.asking.specs.declared.asking_all.Query.{Query}
use Rattle.asking.specs.declared.calls.Manner.TheVariants as manner

-- each member is asked for its decision, and waited for only if so told; it takes the milliseconds that are told at most, and ten
-- seconds if none are, but for one that is waited for
pub record Asks (query : Query) (timeout : Option ℕ) (plan : Plan) : Type 0 where
  pub first : string_bytes plan.lines.first ≡ ask_line query.question
  pub wait : string_bytes plan.lines.wait ≡ await_line query.question
  pub manner : plan.lines.manner ≡ (if query.wait then manner.Until else manner.Once)
  pub limit : plan.limit ≡ (if query.wait then timeout else Some (unwrap_or timeout 10000))
  pub json : plan.json ≡ query.json

-- this bit is proposed to each on this question, and then its decision is waited for; a minute at most if no time is told
pub record Proposes (motion : Motion) (timeout : Option ℕ) (plan : Plan) : Type 0 where
  pub first : string_bytes plan.lines.first ≡ propose_line motion.question motion.bit
  pub wait : string_bytes plan.lines.wait ≡ await_line motion.question
  pub manner : plan.lines.manner ≡ manner.Until
  pub limit : plan.limit ≡ Some (unwrap_or timeout 60000)
  pub json : plan.json ≡ motion.json
