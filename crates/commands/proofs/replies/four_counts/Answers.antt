use Rattle.std.proofs.Common.{◌≡◌, ℕ, List, Option, Some, None, ap, subst, sym, unwrap_or}
use Rattle.commands.specs.Replies.{AreCounts, HasFirst}
use Rattle.commands.specs.declared.replies.Links.{Links}
use Rattle.commands.proofs.replies.four_counts.Goals as goal

pub returns-in_err-coming-clause-exact : goal.returns-in_err-coming-clause-exact
returns-in_err-coming-clause-exact c = λ links are. absurd (c.in_err-coming.ensures.exact links.coming are.0 are.2)

pub returns-in_err-going-clause-exact : goal.returns-in_err-going-clause-exact
returns-in_err-going-clause-exact c = λ links are.
    let first = c.in_ok-coming.ensures.exact links.coming are.0 are.2 in
    absurd (c.in_err-going.ensures.exact links.going are.1 (subst (λ (words : List ℕ). HasFirst words links.going are.1) (sym first.1) are.3))

pub returns-in_err-members-clause-exact : goal.returns-in_err-members-clause-exact
returns-in_err-members-clause-exact c = λ links are.
    let first = c.in_ok-coming.ensures.exact links.coming are.0 are.2 in
    let second = c.in_ok-going.ensures.exact links.going are.1 (subst (λ (words : List ℕ). HasFirst words links.going are.1) (sym first.1) are.3) in
    let there : ◌≡◌ {A = Option (ℕ × ℕ)} None (Some (links.members, links.needed)) =
    c.in_err-members.ensures.exact links.members links.needed (subst (λ (words : List ℕ). AreCounts words links.members links.needed) (sym second.1) are.4) in
    absurd (cc)

pub returns-clause-exact : goal.returns-clause-exact
returns-clause-exact c = λ links are.
    let first = c.in_ok-coming.ensures.exact links.coming are.0 are.2 in
    let second = c.in_ok-going.ensures.exact links.going are.1 (subst (λ (words : List ℕ). HasFirst words links.going are.1) (sym first.1) are.3) in
    let third = c.in_ok-members.ensures.exact links.members links.needed (subst (λ (words : List ℕ). AreCounts words links.members links.needed) (sym second.1) are.4) in
    let members = ap (λ (o : Option (ℕ × ℕ)). (unwrap_or o (0, 0)).0) third in
    let needed = ap (λ (o : Option (ℕ × ℕ)). (unwrap_or o (0, 0)).1) third in
    λ i. Some (record { coming = first.0 i; going = second.0 i; members = members i; needed = needed i })
