-- The paths of requests.
use Rattle.std.specs.Prelude.{ℕ, ◌≡◌, ◌⊎◌, List, ◌++◌, codes}
use Rattle.numerals.specs.Numbers.{IsBelow}
use Rattle.gateway.specs.declared.routes.Route.{Route}
use Rattle.gateway.specs.declared.routes.Route.TheVariants.{Page, Health, Ready, Metrics, Members, Questions, Decisions, Question, Transcript}

-- a path that has no number: of the page and of what supervisors ask, or of lists
abbrev pub IsPlainPath : List ℕ → Route → Type 0
IsPlainPath path route =
    ((path ≡ codes "/") × (route ≡ Page))
    ⊎ (((path ≡ codes "/health") × (route ≡ Health))
    ⊎ (((path ≡ codes "/ready") × (route ≡ Ready))
    ⊎ ((path ≡ codes "/metrics") × (route ≡ Metrics))))

abbrev pub IsListPath : List ℕ → Route → Type 0
IsListPath path route =
    ((path ≡ codes "/v1/members") × (route ≡ Members))
    ⊎ (((path ≡ codes "/v1/questions") × (route ≡ Questions))
    ⊎ ((path ≡ codes "/v1/decisions") × (route ≡ Decisions)))

-- what follows `/v1/questions/`: a number, or a number and `/transcript`
abbrev pub IsTranscriptRest : List ℕ → Route → Type 0
IsTranscriptRest rest route =
    (digits : List ℕ) × (question : ℕ) × (rest ≡ digits ++ codes "/transcript") × IsBelow 64 digits question × (route ≡ Transcript question)

abbrev pub IsQuestionRest : List ℕ → Route → Type 0
IsQuestionRest rest route = ((question : ℕ) × IsBelow 64 rest question × (route ≡ Question question)) ⊎ IsTranscriptRest rest route

abbrev pub IsQuestionPath : List ℕ → Route → Type 0
IsQuestionPath path route = (rest : List ℕ) × (path ≡ codes "/v1/questions/" ++ rest) × IsQuestionRest rest route

-- the path of this route
abbrev pub IsRoute : List ℕ → Route → Type 0
IsRoute path route = IsPlainPath path route ⊎ (IsListPath path route ⊎ IsQuestionPath path route)
