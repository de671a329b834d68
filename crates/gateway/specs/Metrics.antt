-- The text for Prometheus.
use Rattle.std.specs.Prelude.{ℕ, suc, ◌/◌, ◌%◌, is_some, List, [], ◌∷◌, ◌++◌, codes, count_by, length}
use Rattle.std.specs.List.{flat_map}
use Rattle.std.specs.Fmt.{decimal}
use Rattle.gateway.specs.declared.metrics.Gauge.{Gauge}
use Rattle.gateway.specs.declared.metrics.Gauge.TheVariants as gauge
use Rattle.gateway.specs.declared.metrics.Tally.{Tally}
use Rattle.gateway.specs.Times.{bounds, bucket_of}
use Rattle.gateway.specs.declared.times.Bucket.{Bucket}
use Rattle.gateway.specs.declared.metrics.Total.{Total}
use Rattle.gateway.specs.declared.metrics.Total.TheVariants as total
use Rattle.gateway.specs.declared.views.MemberState.{MemberState}
use Rattle.gateway.specs.declared.views.MemberState.TheVariants.{Up, Silent, Stopped}
use Rattle.gateway.specs.declared.views.MemberView.{MemberView}

-- a metric of each member: its name, its head and its value
abbrev pub gauge_name : Gauge → List ℕ
gauge_name gauge.Up = codes "bracha_member_up"
gauge_name gauge.Coming = codes "bracha_member_links_in"
gauge_name gauge.Going = codes "bracha_member_links_out"
gauge_name gauge.Statements = codes "bracha_member_statements"
gauge_name gauge.Decided = codes "bracha_member_decided"
gauge_name gauge.Contradictions = codes "bracha_member_contradictions"

abbrev pub gauge_help : Gauge → List ℕ
gauge_help gauge.Up = codes "1 if the desk of the member answers."
gauge_help gauge.Coming = codes "Links that come in."
gauge_help gauge.Going = codes "Links that go out."
gauge_help gauge.Statements = codes "Statements that the member said."
gauge_help gauge.Decided = codes "Questions that the member decided."
gauge_help gauge.Contradictions = codes "Questions on which more than t others contradict the member."

abbrev pub up_value : MemberState → ℕ
up_value Up = 1
up_value Silent = 0
up_value Stopped = 0

abbrev pub gauge_value : Gauge → MemberView → ℕ
gauge_value gauge.Up view = up_value view.state
gauge_value gauge.Coming view = view.coming
gauge_value gauge.Going view = view.going
gauge_value gauge.Statements view = view.statements
gauge_value gauge.Decided view = view.decided
gauge_value gauge.Contradictions view = count_by is_some view.contradicts.items

-- the lines before a metric's rows
abbrev pub head_text : List ℕ → List ℕ → List ℕ → List ℕ
head_text name help kind =
    codes "# HELP " ++ (name ++ (codes " " ++ (help ++ (codes "\n# TYPE " ++ (name ++ (codes " " ++ (kind ++ codes "\n")))))))

-- a row of a member, and the rows of members from one on
abbrev pub gauge_row : Gauge → ℕ → MemberView → List ℕ
gauge_row metric member view =
    gauge_name metric ++ (codes "{member=\"" ++ (decimal member ++ (codes "\"} " ++ (decimal (gauge_value metric view) ++ codes "\n"))))

abbrev pub gauge_rows : Gauge → ℕ → List MemberView → List ℕ
gauge_rows metric member [] = []
gauge_rows metric member (view ∷ views) = gauge_row metric member view ++ gauge_rows metric (suc member) views

abbrev pub gauge_text : List MemberView → Gauge → List ℕ
gauge_text views metric = head_text (gauge_name metric) (gauge_help metric) (codes "gauge") ++ gauge_rows metric 0 views

-- a metric of the cluster
abbrev pub total_name : Total → List ℕ
total_name total.Questions = codes "bracha_questions"
total_name total.Open = codes "bracha_questions_open"
total_name total.Decisions = codes "bracha_decisions_total"
total_name total.Refusals = codes "bracha_gateway_refusals_total"

abbrev pub total_help : Total → List ℕ
total_help total.Questions = codes "Questions of the cluster."
total_help total.Open = codes "Questions that were proposed and aren't decided."
total_help total.Decisions = codes "Decisions that more than t members told."
total_help total.Refusals = codes "Requests that the gateway refused."

abbrev pub total_kind : Total → List ℕ
total_kind total.Questions = codes "gauge"
total_kind total.Open = codes "gauge"
total_kind total.Decisions = codes "counter"
total_kind total.Refusals = codes "counter"

abbrev pub total_value : Total → Tally → ℕ
total_value total.Questions tally = tally.questions
total_value total.Open tally = tally.waiting
total_value total.Decisions tally = tally.decisions
total_value total.Refusals tally = tally.refusals

abbrev pub total_text : Tally → Total → List ℕ
total_text tally metric =
    head_text (total_name metric) (total_help metric) (total_kind metric)
    ++ (total_name metric ++ (codes " " ++ (decimal (total_value metric tally) ++ codes "\n")))

-- milliseconds as seconds
abbrev pub seconds_text : ℕ → List ℕ
seconds_text ms =
    decimal (ms / 1000) ++ (codes "." ++ (decimal (ms / 100 % 10) ++ (decimal (ms / 10 % 10) ++ decimal (ms % 10))))

-- the row of a bucket, and that of how many decisions took at most so many milliseconds
abbrev pub bucket_text : Bucket → List ℕ
bucket_text bucket =
    codes "bracha_decision_seconds_bucket{le=\"" ++ (seconds_text bucket.most ++ (codes "\"} " ++ (decimal bucket.count ++ codes "\n")))

abbrev pub bucket_row : List ℕ → ℕ → List ℕ
bucket_row times most = bucket_text (bucket_of times most)

-- all decisions whose time is known, and the sum of the times
abbrev pub times_end : ℕ → ℕ → List ℕ
times_end count sum =
    codes "bracha_decision_seconds_bucket{le=\"+Inf\"} " ++ (decimal count ++ (codes "\nbracha_decision_seconds_sum " ++ (seconds_text sum
    ++ (codes "\nbracha_decision_seconds_count " ++ (decimal count ++ codes "\n")))))

abbrev pub times_head : List ℕ
times_head =
    codes "# HELP bracha_decision_seconds Time from the proposal here to the decision of more than t members.\n# TYPE bracha_decision_seconds histogram\n"

unfoldable pub times_text : List ℕ → ℕ → List ℕ
times_text times sum = (times_head ++ flat_map (bucket_row times) bounds) ++ times_end (length times) sum

-- all metrics
unfoldable pub gauges : List Gauge
gauges = gauge.Up ∷ gauge.Coming ∷ gauge.Going ∷ gauge.Statements ∷ gauge.Decided ∷ gauge.Contradictions ∷ []

unfoldable pub totals : List Total
totals = total.Questions ∷ total.Open ∷ total.Decisions ∷ total.Refusals ∷ []

-- of times from proposals to decisions that were these
abbrev pub metrics_text : Tally → List MemberView → List ℕ → List ℕ
metrics_text tally views times =
    (flat_map (gauge_text views) gauges ++ flat_map (total_text tally) totals) ++ times_text times tally.sum
