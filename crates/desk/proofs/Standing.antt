-- The replies by what is told of how far a member is are those of its book.
use Rattle.std.proofs.Common.{◌≡◌, refl, Bool, true, false, ℕ, None, Some, if◌then◌else◌}
use Rattle.terms_prelude.specs.Terms.{Size}
use Rattle.member.specs.Words.{member_header, member_is_stopped}
use Rattle.node.specs.declared.link_table.LinkCount.{LinkCount}
use Rattle.node.specs.Standings.{status_of}
use Rattle.node.specs.Views.{BookView}
use Rattle.desk.specs.declared.reply.Reply.TheVariants.{Links, Stopped, Up}
use Rattle.desk.specs.Answers.{links_reply, standing_links, standing_reply, status_reply}

told : (b : Bool) (statements decided : ℕ)
    → standing_reply (if b then None else Some (statements, decided)) ≡ (if b then Stopped else Up statements decided)
told true statements decided = refl
told false statements decided = refl

pub standing_reply_is : {D : Type 0} (b : BookView D) → standing_reply (status_of b) ≡ status_reply b
standing_reply_is b = told (member_is_stopped b.member) _ _

linked : (b : Bool) (status : ℕ × ℕ) (count : LinkCount) (size : Size)
    → standing_links (if b then None else Some status) count size ≡ (if b then Stopped else Links count size)
linked true status count size = refl
linked false status count size = refl

pub standing_links_are : {D : Type 0} (b : BookView D) (count : LinkCount)
    → standing_links (status_of b) count (member_header b.member).size ≡ links_reply b count
standing_links_are b count = linked (member_is_stopped b.member) _ count (member_header b.member).size

stopped : (b : Bool) (status : ℕ × ℕ) → (if b then None else Some status) ≡ None → b ≡ true
stopped true status none = refl
stopped false status none = absurd (cc (none))

-- a member of which nothing is told of how far it is, is stopped
pub stopped_if_none : {D : Type 0} (b : BookView D) → status_of b ≡ None → member_is_stopped b.member ≡ true
stopped_if_none b none = stopped (member_is_stopped b.member) _ none
