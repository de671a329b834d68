-- Objects of JSON about members.
use Rattle.std.specs.Prelude.{ℕ, suc, ◌≡◌, ◌≤◌, ◌-◌, Bool, true, false, Option, Some, None, List, [], ◌∷◌, ◌++◌, codes, drop}
use Rattle.std.specs.Fmt.{decimal}
use Rattle.terms_prelude.specs.Terms.{Size}
use Rattle.gateway.specs.Answers.{says_text}
use Rattle.gateway.specs.declared.scopes.Scope.{Scope}
use Rattle.gateway.specs.declared.views.MemberState.{MemberState}
use Rattle.gateway.specs.declared.views.MemberState.TheVariants.{Up, Silent, Stopped}
use Rattle.gateway.specs.declared.views.MemberView.{MemberView}
use Rattle.gateway.specs.declared.views.Proposing.{Proposing}
use Rattle.gateway.specs.declared.views.Proposing.TheVariants.{Open, Token, Never}

-- the words of JSON for a state, and for who may propose
abbrev pub state_word : MemberState → List ℕ
state_word Up = codes "up"
state_word Silent = codes "silent"
state_word Stopped = codes "stopped"

abbrev pub proposing_word : Proposing → List ℕ
proposing_word Open = codes "open"
proposing_word Token = codes "token"
proposing_word Never = codes "never"

-- the items of the questions on which the member contradicts the others, with a comma before each, from a question on
abbrev pub contradiction_item : ℕ → Option Bool → List ℕ
contradiction_item question None = []
contradiction_item question (Some bit) =
    codes ",{\"question\":" ++ (decimal question ++ (codes ",\"says\":" ++ (says_text (Some bit) ++ codes "}")))

abbrev pub contradiction_items : ℕ → List (Option Bool) → List ℕ
contradiction_items question [] = []
contradiction_items question (found ∷ rest) = contradiction_item question found ++ contradiction_items (suc question) rest

-- the numbers of a member
abbrev pub member_head : ℕ → MemberView → List ℕ
member_head member view =
    codes ",{\"member\":" ++ (decimal member ++ (codes ",\"state\":\"" ++ (state_word view.state
    ++ (codes "\",\"in\":" ++ (decimal view.coming ++ (codes ",\"out\":" ++ decimal view.going))))))

abbrev pub member_counts : MemberView → List ℕ
member_counts view =
    codes ",\"statements\":" ++ (decimal view.statements ++ (codes ",\"decided\":" ++ (decimal view.decided ++ codes ",\"contradicts\":[")))

-- the item of a member behind a comma, and the items of members from one on
abbrev pub member_item : ℕ → MemberView → List ℕ
member_item member view =
    ((member_head member view ++ member_counts view) ++ drop 1 (contradiction_items view.first view.contradicts.items)) ++ codes "]}"

abbrev pub member_items : ℕ → List MemberView → List ℕ
member_items member [] = []
member_items member (view ∷ views) = member_item member view ++ member_items (suc member) views

-- the object of all members
unfoldable pub size_fields : ℕ → Size → List ℕ
size_fields cluster size =
    codes "{\"cluster\":" ++ (decimal cluster ++ (codes ",\"n\":" ++ (decimal size.n ++ (codes ",\"t\":" ++ (decimal size.t
    ++ (codes ",\"questions\":" ++ decimal size.questions))))))

abbrev pub proposing_field : Proposing → List ℕ
proposing_field proposing = codes ",\"propose\":\"" ++ (proposing_word proposing ++ codes "\",\"members\":[")

abbrev pub chain_field : Bool → List ℕ
chain_field false = []
chain_field true = codes ",\"chain\":true"

abbrev pub members_head : ℕ → Scope → Proposing → List ℕ
members_head cluster scope proposing = (size_fields cluster scope.size ++ chain_field scope.chain) ++ proposing_field proposing

abbrev pub members_object : ℕ → Scope → Proposing → List MemberView → List ℕ
members_object cluster scope proposing views = (members_head cluster scope proposing ++ drop 1 (member_items 0 views)) ++ codes "]}\n"

-- the member answers, and as many links come in and go out as it needs to decide
pub record IsLinked (size : Size) (view : MemberView) : Type 0 where
  pub up : view.state ≡ Up
  pub coming : size.n - size.t ≤ view.coming
  pub going : size.n - size.t ≤ view.going
