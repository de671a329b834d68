-- What a request asks for, and why one is refused.
use Rattle.std.specs.Prelude.{ℕ, ◌≡◌, ◌⊎◌, ◌<◌, ◌≤◌, Bool, Option, Some, None, List, codes}
use Rattle.gateway.specs.declared.guards.Policy.{Policy}
use Rattle.gateway.specs.declared.queries.Position.{Position}
use Rattle.gateway.specs.declared.requests.Method.{Method}
use Rattle.gateway.specs.declared.requests.Method.TheVariants as method
use Rattle.gateway.specs.declared.requests.Request.{Request}
use Rattle.gateway.specs.declared.requests.Refusal.{Refusal}
use Rattle.gateway.specs.declared.requests.Refusal.TheVariants as refusal
use Rattle.gateway.specs.declared.requests.Task.{Task}
use Rattle.gateway.specs.declared.requests.Task.TheVariants as task
use Rattle.gateway.specs.declared.routes.Route.{Route}
use Rattle.gateway.specs.declared.routes.Route.TheVariants as route
use Rattle.gateway.specs.Guards.{IsJsonType, IsOwnHost, IsOwnOrigin, ShowsToken, TakesProposals}
use Rattle.gateway.specs.Motions.{IsMotion}
use Rattle.gateway.specs.Queries.{IsAfter, IsRange, IsWait}
use Rattle.gateway.specs.Routes.{IsRoute}
use Rattle.gateway.specs.Scopes.{question_count}
use Rattle.gateway.specs.declared.scopes.Scope.{Scope}

-- the position that the words name; there is none only if they name none
abbrev pub IsNamedAfter : List ℕ → List ℕ → Option Position → Type 0
IsNamedAfter query last None = (at : Position) → IsAfter query last at → ⊥
IsNamedAfter query last (Some at) = IsAfter query last at

-- a request that only reads asks for this
abbrev pub IsRead : Scope → Route → Request → Task → Type 0
IsRead scope at request task.Page = at ≡ route.Page
IsRead scope at request task.Health = at ≡ route.Health
IsRead scope at request task.Ready = at ≡ route.Ready
IsRead scope at request task.Metrics = at ≡ route.Metrics
IsRead scope at request task.Members = at ≡ route.Members
IsRead scope at request (task.Questions from to) = (at ≡ route.Questions) × IsRange (question_count scope) request.query.now from to
IsRead scope at request (task.Question question wait) =
    (at ≡ route.Question question) × (question < question_count scope) × IsWait request.query.now wait
IsRead scope at request (task.Transcript question) = (at ≡ route.Transcript question) × (question < question_count scope)
IsRead scope at request (task.Decisions after) = (at ≡ route.Decisions) × IsNamedAfter request.query.now request.last.now after
IsRead scope at request (task.Propose question bit wait) = ⊥

-- the request may propose: everything that one must have, whatever it proposes
pub record MayPropose (policy : Policy) (request : Request) : Type 0 where
  pub taken : TakesProposals policy
  pub origin : IsOwnOrigin request.host.now request.origin.now
  pub json : IsJsonType request.content.now
  pub token : ShowsToken policy.token.now request.authorization.now

-- a proposal
pub record IsProposal (policy : Policy) (scope : Scope) (at : Route) (request : Request) (question : ℕ) (bit : Bool) (wait : ℕ) : Type 0 where
  pub path : at ≡ route.Question question
  pub may : MayPropose policy request
  pub exists : question < question_count scope
  pub time : IsWait request.query.now wait
  pub body : IsMotion request.body.now bit

abbrev pub Proposes : Policy → Scope → Route → Request → Task → Type 0
Proposes policy scope at request task.Page = ⊥
Proposes policy scope at request task.Health = ⊥
Proposes policy scope at request task.Ready = ⊥
Proposes policy scope at request task.Metrics = ⊥
Proposes policy scope at request task.Members = ⊥
Proposes policy scope at request (task.Questions from to) = ⊥
Proposes policy scope at request (task.Question question wait) = ⊥
Proposes policy scope at request (task.Transcript question) = ⊥
Proposes policy scope at request (task.Decisions after) = ⊥
Proposes policy scope at request (task.Propose question bit wait) = IsProposal policy scope at request question bit wait

-- what a request of this method asks for at this route
abbrev pub AsksFor : Method → Policy → Scope → Route → Request → Task → Type 0
AsksFor method.Get policy scope at request done = IsRead scope at request done
AsksFor method.Post policy scope at request done = Proposes policy scope at request done
AsksFor method.Other policy scope at request done = ⊥

-- what is to be done for a request
pub record IsTask (policy : Policy) (scope : Scope) (request : Request) (done : Task) : Type 0 where
  pub host : IsOwnHost policy request.host.now
  pub at : Route
  pub route : IsRoute request.path.now at
  pub asks : AsksFor request.method policy scope at request done

-- why a request that only reads is refused: there is no such question, or else the query is none of this route
abbrev pub IsReadRefused : Scope → Route → Request → Refusal → Type 0
IsReadRefused scope (route.Question question) request why =
    ((why ≡ refusal.Question) × (question_count scope ≤ question))
    ⊎ ((why ≡ refusal.Query) × (question < question_count scope) × ((wait : ℕ) → IsWait request.query.now wait → ⊥))
IsReadRefused scope (route.Transcript question) request why = (why ≡ refusal.Question) × (question_count scope ≤ question)
IsReadRefused scope route.Questions request why =
    (why ≡ refusal.Query) × ((from to : ℕ) → IsRange (question_count scope) request.query.now from to → ⊥)
IsReadRefused scope route.Page request why = ⊥
IsReadRefused scope route.Health request why = ⊥
IsReadRefused scope route.Ready request why = ⊥
IsReadRefused scope route.Metrics request why = ⊥
IsReadRefused scope route.Members request why = ⊥
IsReadRefused scope route.Decisions request why = ⊥

-- all of a proposal but its body is right
pub record IsPlaced (policy : Policy) (scope : Scope) (question : ℕ) (request : Request) : Type 0 where
  pub may : MayPropose policy request
  pub exists : question < question_count scope
  pub wait : ℕ
  pub time : IsWait request.query.now wait

-- why a proposal on a question is refused: the first that applies
abbrev pub IsProposalRefused : Policy → Scope → ℕ → Request → Refusal → Type 0
IsProposalRefused policy scope question request refusal.Closed = TakesProposals policy → ⊥
IsProposalRefused policy scope question request refusal.Origin =
    TakesProposals policy × (IsOwnOrigin request.host.now request.origin.now → ⊥)
IsProposalRefused policy scope question request refusal.Type =
    TakesProposals policy × IsOwnOrigin request.host.now request.origin.now × (IsJsonType request.content.now → ⊥)
IsProposalRefused policy scope question request refusal.Token =
    TakesProposals policy × IsOwnOrigin request.host.now request.origin.now × IsJsonType request.content.now
    × (ShowsToken policy.token.now request.authorization.now → ⊥)
IsProposalRefused policy scope question request refusal.Question = MayPropose policy request × (question_count scope ≤ question)
IsProposalRefused policy scope question request refusal.Query =
    MayPropose policy request × (question < question_count scope) × ((wait : ℕ) → IsWait request.query.now wait → ⊥)
IsProposalRefused policy scope question request refusal.Body =
    IsPlaced policy scope question request × ((bit : Bool) → IsMotion request.body.now bit → ⊥)
IsProposalRefused policy scope question request refusal.Memory = IsPlaced policy scope question request
IsProposalRefused policy scope question request refusal.Host = ⊥
IsProposalRefused policy scope question request refusal.Path = ⊥
IsProposalRefused policy scope question request refusal.Method = ⊥
IsProposalRefused policy scope question request refusal.Past = ⊥
IsProposalRefused policy scope question request refusal.Busy = ⊥
IsProposalRefused policy scope question request refusal.Silent = ⊥
IsProposalRefused policy scope question request refusal.Undecided = ⊥
IsProposalRefused policy scope question request refusal.Thin = ⊥

-- why a request to change something is refused: one may only propose, on a question
abbrev pub IsChangeRefused : Policy → Scope → Route → Request → Refusal → Type 0
IsChangeRefused policy scope (route.Question question) request why = IsProposalRefused policy scope question request why
IsChangeRefused policy scope (route.Transcript question) request why = why ≡ refusal.Method
IsChangeRefused policy scope route.Page request why = why ≡ refusal.Method
IsChangeRefused policy scope route.Health request why = why ≡ refusal.Method
IsChangeRefused policy scope route.Ready request why = why ≡ refusal.Method
IsChangeRefused policy scope route.Metrics request why = why ≡ refusal.Method
IsChangeRefused policy scope route.Members request why = why ≡ refusal.Method
IsChangeRefused policy scope route.Questions request why = why ≡ refusal.Method
IsChangeRefused policy scope route.Decisions request why = why ≡ refusal.Method

-- why a request of this method is refused at this route
abbrev pub IsRefusedAt : Method → Policy → Scope → Route → Request → Refusal → Type 0
IsRefusedAt method.Get policy scope at request why = IsReadRefused scope at request why
IsRefusedAt method.Post policy scope at request why = IsChangeRefused policy scope at request why
IsRefusedAt method.Other policy scope at request why = why ≡ refusal.Method

-- why a request is refused: the first that applies of its host, its path, and what it asks for there
abbrev pub IsRefused : Policy → Scope → Request → Refusal → Type 0
IsRefused policy scope request why =
    ((why ≡ refusal.Host) × (IsOwnHost policy request.host.now → ⊥))
    ⊎ (((why ≡ refusal.Path) × IsOwnHost policy request.host.now × ((at : Route) → IsRoute request.path.now at → ⊥))
    ⊎ ((at : Route) × IsOwnHost policy request.host.now × IsRoute request.path.now at
    × IsRefusedAt request.method policy scope at request why))

-- the body has no bit, or memory to read it was refused
abbrev pub IsBodyRefused : List ℕ → Refusal → Type 0
IsBodyRefused body why = ((why ≡ refusal.Body) × ((bit : Bool) → IsMotion body bit → ⊥)) ⊎ (why ≡ refusal.Memory)

-- the status of HTTP for a refusal, and its word
abbrev pub status_of : Refusal → ℕ
status_of refusal.Host = 421
status_of refusal.Path = 404
status_of refusal.Method = 405
status_of refusal.Question = 404
status_of refusal.Past = 410
status_of refusal.Query = 400
status_of refusal.Closed = 403
status_of refusal.Origin = 403
status_of refusal.Type = 415
status_of refusal.Token = 401
status_of refusal.Body = 400
status_of refusal.Memory = 503
status_of refusal.Busy = 429
status_of refusal.Silent = 503
status_of refusal.Undecided = 404
status_of refusal.Thin = 404

abbrev pub word_of : Refusal → List ℕ
word_of refusal.Host = codes "host"
word_of refusal.Path = codes "path"
word_of refusal.Method = codes "method"
word_of refusal.Question = codes "question"
word_of refusal.Past = codes "past"
word_of refusal.Query = codes "query"
word_of refusal.Closed = codes "closed"
word_of refusal.Origin = codes "origin"
word_of refusal.Type = codes "content-type"
word_of refusal.Token = codes "token"
word_of refusal.Body = codes "body"
word_of refusal.Memory = codes "memory"
word_of refusal.Busy = codes "busy"
word_of refusal.Silent = codes "silent"
word_of refusal.Undecided = codes "undecided"
word_of refusal.Thin = codes "thin"
