-- Events that are told, one after the other.
use Rattle.std.proofs.Common.{ℕ, zero, suc, ◌≡◌, ◌+◌, ◌-◌, ◌≤◌, ◌∙◌, refl, sym, ap, subst, arith, Bool, Option, Some, None, List, [], ◌∷◌, ◌++◌, append_assoc, append-nil, drop, length, length-append, length-drop, min}
use Rattle.std.proofs.Math.Seq.{drop-length}
use Rattle.std.specs.List.{All}
use Rattle.std.proofs.lemmas.List.Elements.{All-append}
use Rattle.terms_prelude.specs.Terms.{Size}
use Rattle.gateway.specs.Watches.{Decides, Watches, watch_size}
use Rattle.gateway.specs.declared.events.Event.{Event}
use Rattle.gateway.specs.declared.events.Event.TheVariants as event
use Rattle.gateway.specs.declared.watch.Told.{Told}
use Rattle.gateway.specs.declared.watch.Watch.{Watch}
use Rattle.portal.specs.Books.{book_note}
use Rattle.portal.specs.Tellings.{AreTold, HaveCome, Hears, IsContradiction, Tells, TellsContradictions, TellsDecision, ms_since, number_after}
use Rattle.portal.specs.declared.book.Book.{Book}

-- no event
pub none_come : (before before_now : ℕ) (events events_now : List Event) → events_now ≡ events → before_now ≡ before
    → HaveCome [] before events before_now events_now
none_come before before_now events events_now same also = record {
  dropped = 0;
  events_are = same ∙ sym (append-nil events);
  last =
      let long : length events_now ≡ length events = ap length same in
      omega (arith, long, also);
}

-- an event behind the others
pub one_comes : (one : Event) (before : ℕ) (events events_now : List Event) → events_now ≡ events ++ one ∷ []
    → HaveCome (one ∷ []) before events before events_now
one_comes one before events events_now longer = record {
  dropped = 0;
  events_are = longer;
  last =
      let long : length events_now ≡ length events + 1 = ap length longer ∙ length-append events (one ∷ []) in
      omega (arith, long);
}

-- all are dropped
pub all_dropped : (more : List Event) (before before_now : ℕ) (events events_now : List Event) → events_now ≡ []
    → number_after before_now 0 ≡ number_after (number_after before (length events)) (length more)
    → HaveCome more before events before_now events_now
all_dropped more before before_now events events_now none number = record {
  dropped = length (events ++ more);
  events_are = none ∙ sym (drop-length (events ++ more));
  last = ap (λ (l : List Event). number_after before_now (length l)) none ∙ number;
}

-- the older ones are dropped
pub older_dropped : (half before before_now : ℕ) (events events_now : List Event) → events_now ≡ drop half events → half ≤ length events
    → before_now ≡ number_after before half → HaveCome [] before events before_now events_now
older_dropped half before before_now events events_now later within number = record {
  dropped = half;
  events_are = later ∙ ap (λ (l : List Event). drop half l) (sym (append-nil events));
  last =
      let long : length events_now ≡ length events - half = ap length later ∙ length-drop half events in
      omega (arith, long, within, number);
}

-- what is dropped before and after is dropped at once
drops : (a b : ℕ) (xs ys : List Event) → (n : ℕ) × (drop b (drop a xs ++ ys) ≡ drop n (xs ++ ys))
drops zero b xs ys = (b, refl)
drops (suc a) b [] ys = (b, refl)
drops (suc a) b (x ∷ xs) ys = let rest = drops a b xs ys in (suc rest.0, rest.1)

-- events, and then others
pub then_come : (some more : List Event) (a b c : ℕ) (first second third : List Event)
    → HaveCome some a first b second → HaveCome more b second c third → HaveCome (some ++ more) a first c third
then_come some more a b c first second third one two =
    let all = drops one.dropped two.dropped (first ++ some) more in
    record {
      dropped = all.0;
      events_are = two.events_are ∙ ap (λ (l : List Event). drop two.dropped (l ++ more)) one.events_are ∙ all.1
          ∙ ap (λ (l : List Event). drop all.0 l) (append_assoc first some more);
      last =
          let before = one.last in
          let after = two.last in
          let long = length-append some more in
          omega (arith, before, after, long);
    }

-- contradictions, and then others
all_more : (watch : Watch) (question : ℕ) (some more : List Event) → All (IsContradiction watch question) some → All (IsContradiction watch question) more
    → All (IsContradiction watch question) (some ++ more)
all_more watch question some more one two = All-append (IsContradiction watch question) some more one two

pub then_contradict : (question : ℕ) (old mid new : Book) → TellsContradictions question old mid → TellsContradictions question mid new
    → TellsContradictions question old new
then_contradict question old mid new one two =
    let same : mid.hearing ≡ old.hearing = ap (λ (book : Book). book.hearing) one.rest in
    record {
      contradictions = one.contradictions ++ two.contradictions;
      told = then_come one.contradictions two.contradictions old.before mid.before new.before old.events.items mid.events.items new.events.items one.told two.told;
      each = all_more old.hearing question one.contradictions two.contradictions one.each
          (subst (λ (watch : Watch). All (IsContradiction watch question) two.contradictions) same two.each);
      rest = two.rest ∙ ap (λ (book : Book). record book { events = new.events; before = new.before }) one.rest;
    }

-- none
pub none_contradict : (question : ℕ) (book : Book) → TellsContradictions question book book
none_contradict question book = record {
  contradictions = [];
  told = none_come book.before book.before book.events.items book.events.items refl refl;
  each = λ place d within. absurd (omega (arith, within));
  rest = refl;
}

pub none_told : (book : Book) → AreTold [] book book
none_told book = none_come book.before book.before book.events.items book.events.items refl refl

-- all are dropped, and no event is told
pub all_gone : (before before_now : ℕ) (events mid events_now : List Event) → events_now ≡ [] → mid ≡ events
    → number_after before_now (length events_now) ≡ number_after before (length mid) → HaveCome [] before events before_now events_now
all_gone before before_now events mid events_now none same last =
    all_dropped [] before before_now events events_now none
    (let long : length mid ≡ length events = ap length same in
    let short : length events_now ≡ 0 = ap length none in
    omega (arith, last, long, short))

-- a decision, and then what members contradict by the words on its question
pub decided : (question : ℕ) (bit : Bool) (time : ℕ) (ms : Option ℕ) (old mid noted new : Book) → mid.before ≡ old.before → mid.events.items ≡ old.events.items
    → ms ≡ ms_since (book_note old question).begun time
    → HaveCome (event.Decided question bit ms time ∷ []) mid.before mid.events.items noted.before noted.events.items
    → TellsContradictions question noted new → TellsDecision new.hearing question bit time old new
decided question bit time ms old mid noted new same also is told others =
    let at : HaveCome (event.Decided question bit ms time ∷ []) old.before mid.events.items noted.before noted.events.items =
    subst (λ (b : ℕ). HaveCome (event.Decided question bit ms time ∷ []) b mid.events.items noted.before noted.events.items) same told in
    let from : HaveCome (event.Decided question bit ms time ∷ []) old.before old.events.items noted.before noted.events.items =
    subst (λ (l : List Event). HaveCome (event.Decided question bit ms time ∷ []) old.before l noted.before noted.events.items) also at in
    let since = ms_since (book_note old question).begun time in
    let one : HaveCome (event.Decided question bit since time ∷ []) old.before old.events.items noted.before noted.events.items =
    subst (λ (m : Option ℕ). HaveCome (event.Decided question bit m time ∷ []) old.before old.events.items noted.before noted.events.items) is from in
    record {
      contradictions = others.contradictions;
      told = then_come (event.Decided question bit since time ∷ []) others.contradictions old.before noted.before new.before old.events.items noted.events.items
          new.events.items one others.told;
      each = subst (λ (watch : Watch). All (IsContradiction watch question) others.contradictions) (sym (ap (λ (book : Book). book.hearing) others.rest)) others.each;
    }

-- what followers are told doesn't hang on the watch before
told_from : (told : Told) (time : ℕ) (before decision : Option Bool) (old new : Book) (now : Watch)
    → Tells told time before decision (record old { hearing = now }) new → Tells told time before decision old new
told_from told time None None old new now tells = tells
told_from told time None (Some bit) old new now tells = record { contradictions = tells.contradictions; told = tells.told; each = tells.each }
told_from told time (Some bit) decision old new now tells = tells

pub heard_is : (heard : List Told) (told : Told) (time : ℕ) (before decision : Option Bool) (old new : Book) (now : Watch)
    → Decides (watch_size old.hearing) heard told.question before → Decides (watch_size now) (heard ++ told ∷ []) told.question decision
    → watch_size now ≡ watch_size old.hearing → Watches now (heard ++ told ∷ []) → new.hearing ≡ now
    → Tells told time before decision (record old { hearing = now }) new → Hears heard told time old new
heard_is heard told time before decision old new now was is size watches same tells = record {
  before = before;
  decision = decision;
  was = was;
  decides = subst (λ (s : Size). Decides s (heard ++ told ∷ []) told.question decision) size is;
  watches = subst (λ (watch : Watch). Watches watch (heard ++ told ∷ [])) (sym same) watches;
  tells = told_from told time before decision old new now tells;
}
