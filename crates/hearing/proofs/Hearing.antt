-- What one statement's answer is made of, and what it leaves.
use Rattle.std.proofs.Common.{ℕ, ◌≡◌, refl, sym, ap, ◌∙◌, subst, Option, Some, None, List, ◌++◌, append_assoc, codes}
use Rattle.std.specs.List.{flat_map}
use Rattle.terms_prelude.specs.Terms.{Kind, Echo, Ready, Value, Place, Statement, Size, FitsStep, Past, after_hearing, MaySay, IsLeast, said_if, after_records, AllFit, FitsIf}
use Rattle.terms.proofs.Fit.{fit_heard, echo_fits, ready_fits}
use Rattle.rbc.specs.declared.Heard.{Heard}
use Rattle.rbc.specs.declared.Heard.TheVariants.{News, Repeat, Foreign}
use Rattle.rbc.specs.declared.Broadcasts.{Broadcasts}
use Rattle.rbc.specs.Words.{heard_as, BroadcastsStandFor}
use Rattle.numerals.specs.Lines.{line}
use Rattle.hearing.specs.Replies.{frame_line, AnswersAs, AnswersStatement}
use Rattle.hearing.specs.Sessions.{IsOf}

-- what is said changes neither the question nor the size nor what was heard
saying_question : (past : Past) (kind : Kind) (place : Place) (o : Option Value) → (after_records past (said_if kind place o)).question ≡ past.question
saying_question past kind place None = refl
saying_question past kind place (Some m) = refl

saying_of : (size : Size) (q : ℕ) (past : Past) (kind : Kind) (place : Place) (o : Option Value) → IsOf size q past → IsOf size q (after_records past (said_if kind place o))
saying_of size q past kind place None h = h
saying_of size q past kind place (Some m) h = record { size_is = h.size_is; question_is = h.question_is; fits = λ a k p v g. h.fits a k p v g }

hearing_of : (size : Size) (q : ℕ) (past : Past) (from : ℕ) (s : Statement) → FitsStep s.place.step s.value → IsOf size q past → IsOf size q (after_hearing past from s)
hearing_of size q past from s fits h = record { size_is = h.size_is; question_is = h.question_is; fits = fit_heard past from s fits h.fits }

-- an answered statement leaves a past of the same question and size, in which all fits
pub answered_of : (size : Size) (q from : ℕ) (past : Past) (s : Statement) (after : Past) (text : List ℕ) → FitsStep s.place.step s.value
    → AnswersStatement from past s after text → IsOf size q past → IsOf size q after
answered_of size q from past s after text fits h of = step (heard_as past from s) h
  where
    step : (t : Heard) → AnswersAs t past from s after text → IsOf size q after
    step Foreign g = subst (λ (p : Past). IsOf size q p) (sym g.0) of
    step Repeat g = subst (λ (p : Past). IsOf size q p) (sym g.0) of
    step News g =
        subst (λ (p : Past). IsOf size q p) (sym g.1.after_is)
        (saying_of size q (after_records (after_hearing past from s) (said_if Echo s.place g.1.echo)) Ready s.place g.1.ready
        (saying_of size q (after_hearing past from s) Echo s.place g.1.echo (hearing_of size q past from s fits of)))

-- a statement and its answer
abbrev pub IsAnswered : ℕ → Past → Statement → Broadcasts → List ℕ → List ℕ → Type 0
IsAnswered from past s b old new =
    (after : Past) × (others : List ℕ) × AnswersStatement from past s after others × BroadcastsStandFor b after × (new ≡ old ++ others)

-- what a call of `say` says
pub record Says (kind : Kind) (place : Place) (due : Option Value) (b c : Broadcasts) (old new : List ℕ) : Type 0 where
  pub text : FitsIf place due → new ≡ old ++ flat_map frame_line (said_if kind place due)
  pub stands : FitsIf place due → (past : Past) → BroadcastsStandFor b past → place.question ≡ past.question → BroadcastsStandFor c (after_records past (said_if kind place due))

module _ (from : ℕ) (past : Past) (s : Statement) (b c d : Broadcasts) (old first second third : List ℕ) (echo ready : Option Value) where
  pub news_answered : AllFit past → FitsStep s.place.step s.value → s.place.question ≡ past.question
      → News ≡ heard_as past from s → BroadcastsStandFor b (after_hearing past from s)
      → first ≡ old ++ line (codes "news")
      → IsLeast (MaySay (after_hearing past from s) Echo s.place) echo → IsLeast (MaySay (after_hearing past from s) Ready s.place) ready
      → Says Echo s.place echo b c first second → Says Ready s.place ready c d second third
      → IsAnswered from past s d old third
  news_answered fit fits asked news stands text echo_is ready_is says_echo says_ready =
      let heard : AllFit (after_hearing past from s) = fit_heard past from s fits fit in
      let f = echo_fits (after_hearing past from s) heard s.place echo echo_is in
      let g = ready_fits (after_hearing past from s) heard s.place ready ready_is in
      let t : second ≡ first ++ flat_map frame_line (said_if Echo s.place echo) = says_echo.text f in
      let u : third ≡ second ++ flat_map frame_line (said_if Ready s.place ready) = says_ready.text g in
      let e = says_echo.stands f (after_hearing past from s) stands asked in
      let r = says_ready.stands g (after_records (after_hearing past from s) (said_if Echo s.place echo)) e
      (asked ∙ sym (saying_question (after_hearing past from s) Echo s.place echo)) in (
        after_records (after_records (after_hearing past from s) (said_if Echo s.place echo)) (said_if Ready s.place ready),
        line (codes "news") ++ (flat_map frame_line (said_if Echo s.place echo) ++ flat_map frame_line (said_if Ready s.place ready)),
        subst (λ (t : Heard). AnswersAs t past from s
            (after_records (after_records (after_hearing past from s) (said_if Echo s.place echo)) (said_if Ready s.place ready))
            (line (codes "news") ++ (flat_map frame_line (said_if Echo s.place echo) ++ flat_map frame_line (said_if Ready s.place ready)))) news (
              flat_map frame_line (said_if Echo s.place echo) ++ flat_map frame_line (said_if Ready s.place ready),
              record { echo = echo; ready = ready; echo_is = echo_is; ready_is = ready_is; after_is = refl; text_is = refl },
              refl,
            ),
        r,
        joined (flat_map frame_line (said_if Echo s.place echo)) (flat_map frame_line (said_if Ready s.place ready)) t u,
      )
    where
      joined : (x y : List ℕ) → second ≡ first ++ x → third ≡ second ++ y → third ≡ old ++ (line (codes "news") ++ (x ++ y))
      joined x y t u =
          u ∙ (ap (λ z. z ++ y) (t ∙ ap (λ z. z ++ x) text)
          ∙ (append_assoc (old ++ line (codes "news")) x y ∙ append_assoc old (line (codes "news")) (x ++ y)))

  -- the same, where the place was read by a call
  pub news_at : (place : Place) → place ≡ s.place → AllFit past → FitsStep s.place.step s.value → s.place.question ≡ past.question
      → News ≡ heard_as past from s → BroadcastsStandFor b (after_hearing past from s)
      → first ≡ old ++ line (codes "news")
      → IsLeast (MaySay (after_hearing past from s) Echo place) echo → IsLeast (MaySay (after_hearing past from s) Ready place) ready
      → Says Echo place echo b c first second → Says Ready place ready c d second third
      → IsAnswered from past s d old third
  news_at place e fit fits asked news stands text echo_is ready_is says_echo says_ready =
      news_answered fit fits asked news stands text
      (subst (λ (p : Place). IsLeast (MaySay (after_hearing past from s) Echo p) echo) e echo_is)
      (subst (λ (p : Place). IsLeast (MaySay (after_hearing past from s) Ready p) ready) e ready_is)
      (subst (λ (p : Place). Says Echo p echo b c first second) e says_echo)
      (subst (λ (p : Place). Says Ready p ready c d second third) e says_ready)
