-- What a gateway's door does for a request, and what an answer says.
use Rattle.std.specs.Prelude.{ℕ, ◌≡◌, ◌⊎◌, Bool, List, [], ◌∷◌, ◌++◌, codes, if◌then◌else◌}
use Rattle.std.specs.Option.{option_map_or}
use Rattle.std.specs.Str.{bytes_eq}
use Rattle.terms_prelude.specs.Terms.{Size}
use Rattle.http_header.specs.HeaderMap.{get}
use Rattle.http_uri.specs.Uri.{uri_path, uri_query}
use Rattle.http.specs.declared.request.Request.{Request}
use Rattle.http.specs.Request.{body_of, head_of}
use Rattle.gateway.specs.declared.guards.Policy.{Policy}
use Rattle.gateway.specs.declared.requests.Method.{Method}
use Rattle.gateway.specs.declared.requests.Method.TheVariants.{Get, Post, Other}
use Rattle.gateway.specs.declared.requests.Request.{Request as Asked}
use Rattle.gateway.specs.declared.requests.Task.{Task}
use Rattle.gateway.specs.declared.requests.Task.TheVariants.{Page, Health, Ready, Metrics, Members, Questions, Question, Transcript, Decisions, Propose}
use Rattle.gateway.specs.declared.scopes.Scope.{Scope}
use Rattle.gateway.specs.declared.standings.Stage.{Stage}
use Rattle.gateway.specs.declared.watch.Told.{Told}
use Rattle.gateway.specs.Answers.{TellsQuestion}
use Rattle.gateway.specs.Requests.{IsTask}
use Rattle.portal.specs.declared.cluster.Proposal.{Proposal}
use Rattle.portal.specs.declared.handed.HandedOn.{HandedOn}

-- the text tells of the question what members told: each one's word, and as its decision what more than t of them told
abbrev pub IsToldAt : Size → ℕ → List ℕ → Type 0
IsToldAt size question text = (stage : Stage) × (heard : List Told) × TellsQuestion size heard question stage text

-- the proposal was handed on to all members, or nothing was
abbrev pub HandsOn : Proposal → List (ℕ × Bool) → List (ℕ × Bool) → Type 0
HandsOn proposal before after = (after ≡ before) ⊎ (after ≡ before ++ (proposal.question, proposal.bit) ∷ [])

abbrev pub handed_after : List (ℕ × Bool) → HandedOn → List (ℕ × Bool)
handed_after handed on = handed ++ (on.proposal.question, on.proposal.bit) ∷ []

-- what is handed on for this task: a proposal at most
abbrev pub HandsOnFor : Task → List (ℕ × Bool) → List (ℕ × Bool) → Type 0
HandsOnFor Page before after = after ≡ before
HandsOnFor Health before after = after ≡ before
HandsOnFor Ready before after = after ≡ before
HandsOnFor Metrics before after = after ≡ before
HandsOnFor Members before after = after ≡ before
HandsOnFor (Questions from to) before after = after ≡ before
HandsOnFor (Question question wait) before after = after ≡ before
HandsOnFor (Transcript question) before after = after ≡ before
HandsOnFor (Decisions position) before after = after ≡ before
HandsOnFor (Propose question bit wait) before after = (after ≡ before) ⊎ (after ≡ before ++ (question, bit) ∷ [])

-- the field of a head, empty where it is missing
abbrev pub field_of : List ℕ → Request (List ℕ) → List ℕ
field_of name request = option_map_or (λ value. value.bytes) (get (head_of request).headers name) []

-- the method
abbrev pub method_of : Request (List ℕ) → Method
method_of request =
    if bytes_eq (head_of request).method (codes "GET") then Get
    else (if bytes_eq (head_of request).method (codes "HEAD") then Get
    else (if bytes_eq (head_of request).method (codes "POST") then Post else Other))

-- the parts of a request that say what is asked for
pub record IsAskedBy (request : Request (List ℕ)) (asked : Asked) : Type 0 where
  pub method : asked.method ≡ method_of request
  pub path : asked.path.now ≡ uri_path (head_of request).uri
  pub query : asked.query.now ≡ option_map_or (λ query. query) (uri_query (head_of request).uri) []
  pub host : asked.host.now ≡ field_of (codes "host") request
  pub origin : asked.origin.now ≡ field_of (codes "origin") request
  pub authorization : asked.authorization.now ≡ field_of (codes "authorization") request
  pub content : asked.content.now ≡ field_of (codes "content-type") request
  pub last : asked.last.now ≡ field_of (codes "last-event-id") request
  pub body : asked.body.now ≡ body_of request

-- the request asks for this
abbrev pub AsksFor : Policy → Scope → Request (List ℕ) → Task → Type 0
AsksFor policy scope request task = (asked : Asked) × IsAskedBy request asked × IsTask policy scope asked task

-- nothing is handed on to the members but what the request may propose
abbrev pub Proposes : Policy → Scope → Request (List ℕ) → List (ℕ × Bool) → List (ℕ × Bool) → Type 0
Proposes policy scope request before after =
    (after ≡ before) ⊎ ((question : ℕ) × (bit : Bool) × (wait : ℕ) × AsksFor policy scope request (Propose question bit wait)
    × (after ≡ before ++ (question, bit) ∷ []))

-- what an answer of status 200 to this task says: to one who asks for a question, what members told of it
abbrev pub SaysOf : Size → Task → List ℕ → Type 0
SaysOf size Page body = Unit {0}
SaysOf size Health body = Unit {0}
SaysOf size Ready body = Unit {0}
SaysOf size Metrics body = Unit {0}
SaysOf size Members body = Unit {0}
SaysOf size (Questions from to) body = Unit {0}
SaysOf size (Question question wait) body = IsToldAt size question body
SaysOf size (Transcript question) body = Unit {0}
SaysOf size (Decisions after) body = Unit {0}
SaysOf size (Propose question bit wait) body = Unit {0}

-- an answer of status 200 is one to what the request asks for
abbrev pub Tells : Policy → Scope → Request (List ℕ) → ℕ → List ℕ → Type 0
Tells policy scope request status body =
    status ≡ 200 → (task : Task) × AsksFor policy scope request task × SaysOf scope.size task body
