-- What a call comes to that answers without a list: the records are those that were saved since.
use Rattle.std.proofs.Common.{◌≡◌, ◌≢◌, ℕ, Result, Ok, Err, IfOk, IfErr, OnOk, OnErr, IsErrOf, Bool, true, List, ◌++◌, length, take, drop, sym, ap, subst, ◌∙◌}
use Rattle.std.proofs.Math.Seq.{take-append_seam, take-length}
use Rattle.std.specs.Global.{Vec}
use Rattle.terms_prelude.specs.Terms.{Header, Record, Event, Reply, records_of}
use Rattle.disk.specs.declared.device.Disk.{Ghosts as DiskGhosts}
use Rattle.journal.specs.Words.{AreWellFormedFor}
use Rattle.world.specs.Words.{World}
use Rattle.questions.specs.declared.Core.{Core}
use Rattle.questions.specs.declared.answer.Heard.{Heard}
use Rattle.questions.specs.declared.answer.CoreFault.{CoreFault}
use Rattle.questions.specs.declared.answer.CoreFault.TheVariants as cores
use Rattle.questions.specs.Replies.{reply_with, added}
use Rattle.questions.proofs.Adding.{added_is}
use Rattle.member.specs.Words.{MemberFault, Stopped, Device, Memory, JournalFull, NoSuchQuestion, NoSuchMember, Member, member_fault, Stops, Kept, KeptBehind, IsEventBy, LivesBy, Replies, DoesStep, world_step, member_disk, member_header, member_gate, member_saved, member_is_stopped, reply_saved}

-- the reply of that outcome, whose records were appended to the first list
abbrev pub heard_in : List Record → List Record → Heard → Reply
heard_in before after heard = reply_with heard (added before after)

-- The core answered into the member's list, which had so many records: those of its reply are behind them now, or with a
-- fault none, and one that isn't of memory left the list alone.
pub record HeardInto {D : Type 0} (old : Member D) (all : Vec Record) (before : ℕ) (heard : Result Heard CoreFault) : Type 0 where
  pub count : before ≡ length old.records.items
  pub appends : IfOk heard (λ h. all.items ≡ old.records.items ++ records_of (heard_in old.records.items all.items h))
  pub same : OnErr heard (all.items ≡ old.records.items)
  pub untouched : IfErr heard (λ e. e ≢ cores.Memory → all ≡ old.records)

-- what was appended is what is behind the first so many
behind_is : (first all : List Record) (before : ℕ) (heard : Heard) → before ≡ length first
    → all ≡ first ++ records_of (heard_in first all heard)
    → drop before all ≡ records_of (heard_in first all heard)
behind_is first all before heard count appends =
    ap (λ (n : ℕ). drop n all) count ∙ added_is first (records_of (heard_in first all heard)) all appends

front_is : {D : Type 0} {old : Member D} {all : Vec Record} {before : ℕ} {heard : Result Heard CoreFault} → HeardInto old all before heard
    → take before all.items ≡ old.records.items
front_is {D} {old} {all} {before} {heard} into = ap (λ (n : ℕ). take n all.items) into.count ∙ go heard into.appends into.same
  where
    go : (h : Result Heard CoreFault) → IfOk h (λ x. all.items ≡ old.records.items ++ records_of (heard_in old.records.items all.items x))
        → OnErr h (all.items ≡ old.records.items) → take (length old.records.items) all.items ≡ old.records.items
    go (Ok h) appends same =
        ap (λ (l : List Record). take (length old.records.items) l) appends
        ∙ take-append_seam old.records.items (records_of (heard_in old.records.items all.items h))
    go (Err e) appends same = ap (λ (l : List Record). take (length old.records.items) l) same ∙ take-length old.records.items

-- its records are well formed
pub formed_behind : {D : Type 0} {old : Member D} {all : Vec Record} {before : ℕ} {heard : Result Heard CoreFault} (header : Header)
    → HeardInto old all before heard → IfOk heard (λ h. AreWellFormedFor header (records_of (heard_in old.records.items all.items h)))
    → OnOk heard (AreWellFormedFor header (drop before all.items))
formed_behind {heard = Err e} header into formed = tt
formed_behind {old = old} {all = all} {before = before} {heard = Ok h} header into formed =
    subst (λ (l : List Record). AreWellFormedFor header l)
    (sym (behind_is old.records.items all.items before h into.count into.appends)) formed

-- a fault that doesn't stop the member leaves its list
untouched_by : {D : Type 0} (old : Member D) (all : Vec Record) (heard : Result Heard CoreFault) (result : Result Heard MemberFault)
    → IfErr heard (λ e. e ≢ cores.Memory → all ≡ old.records) → IfErr heard (λ e. IsErrOf result (member_fault e))
    → IfOk heard (λ _. IfErr result Stops)
    → IfErr result (λ f. (Stops f → ⊥) → all ≡ old.records)
untouched_by old all heard (Ok h) left told stopping = tt
untouched_by old all (Ok h) (Err f) left told stopping = λ goes_on. absurd (goes_on stopping)
untouched_by old all (Err cores.NoSuchQuestion) (Err f) left told stopping = λ goes_on. left (λ e. cc)
untouched_by old all (Err cores.NoSuchMember) (Err f) left told stopping = λ goes_on. left (λ e. cc)
untouched_by old all (Err cores.Memory) (Err f) left told stopping =
    λ goes_on. let one : f ≡ Memory = cc in absurd (goes_on (subst Stops (sym one) tt))
untouched_by old all (Err cores.Failed) (Err f) left told stopping =
    λ goes_on. let one : f ≡ Memory = cc in absurd (goes_on (subst Stops (sym one) tt))

unchanged_by : {D : Type 0} (old : Member D) (core : Core) (all : Vec Record) (new : Member D) (result : Result Heard MemberFault)
    → IfErr result (λ f. (Stops f → ⊥) → all ≡ old.records)
    → IfErr result (λ f. (Stops f → ⊥) → new ≡ record old { core = core; records = all })
    → IfErr result (λ f. (Stops f → ⊥) → new ≡ record old { core = core })
unchanged_by old core all new (Ok h) left changed = tt
unchanged_by old core all new (Err f) left changed =
    λ goes_on. changed goes_on ∙ (λ i. record old { core = core; records = left goes_on i })

-- what was kept of what a core answered into the member's list
pub kept_into : {D : Type 0} {disk : DiskGhosts D} {old : Member D} {core : Core} {all : Vec Record} {before : ℕ}
    {heard : Result Heard CoreFault} {result : Result Heard MemberFault} {new : Member D} → HeardInto old all before heard
    → KeptBehind disk (take before all.items) (record old { core = core; records = all }) core
    (λ h. reply_with h (drop before all.items)) heard result new
    → Kept disk old core (heard_in old.records.items all.items) heard result new
unfolding member_disk member_header member_gate member_saved member_is_stopped
kept_into {D} {disk} {old} {core} {all} {before} {heard} {result} {new} into kept =
    let mid : Member D = record old { core = core; records = all } in
    let counted : KeptBehind disk (take before all.items) mid core (heard_in old.records.items all.items) heard result new =
    subst (λ (n : ℕ). KeptBehind disk (take before all.items) mid core (λ h. reply_with h (drop n all.items)) heard result new)
    into.count kept in
    let k : KeptBehind disk old.records.items mid core (heard_in old.records.items all.items) heard result new =
    subst (λ (l : List Record). KeptBehind disk l mid core (heard_in old.records.items all.items) heard result new)
    (front_is into) counted in
    record {
      filed = k.filed;
      answer_is = k.answer_is;
      saved = k.saved;
      same = k.same;
      core_is = k.core_is;
      header = k.header;
      going = k.going;
      any_moment = k.any_moment;
      refused = k.refused;
      told_is = k.told_is;
      stopping = k.stopping;
      unchanged = unchanged_by old core all new result (untouched_by old all heard result into.untouched k.told_is k.stopping) k.unchanged;
      stops = k.stops;
      same_disk = k.same_disk;
      memory = k.memory;
      full = k.full;
      no_call = k.no_call;
      room = k.room;
      within = k.within;
      device = k.device;
      failures = k.failures;
      kept = k.kept;
    }

-- a reply by another name
pub record IsNamed {A : Type 0} (result : Result A MemberFault) (f g : A → Reply) : Type 0 where
  pub same : IfOk result (λ a. f a ≡ g a)

-- the list is the member's own in the end
pub same_reply : {D : Type 0} {disk : DiskGhosts D} {old : Member D} {core : Core} {all : Vec Record} {before : ℕ}
    {heard : Result Heard CoreFault} {result : Result Heard MemberFault} {new : Member D} → HeardInto old all before heard
    → Kept disk old core (heard_in old.records.items all.items) heard result new
    → IsNamed result (heard_in old.records.items all.items) (reply_saved old new)
unfolding member_saved
same_reply {result = Err f} into kept = record { same = tt }
same_reply {old = old} {all = all} {heard = heard} {result = Ok h} {new = new} into kept =
    let here : all.items ≡ old.records.items ++ records_of (heard_in old.records.items all.items h) =
    subst (λ (o : Result Heard CoreFault).
    IfOk o (λ x. all.items ≡ old.records.items ++ records_of (heard_in old.records.items all.items x)))
    kept.answer_is into.appends in
    record { same = ap (λ (l : List Record). heard_in old.records.items l h) (here ∙ sym kept.saved) }

pub reply_as : {A : Type 0} {result : Result A MemberFault} {f g : A → Reply} (P : Reply → Type 0) → IsNamed result f g
    → IfOk result (λ a. P (f a)) → IfOk result (λ a. P (g a))
reply_as {result = Err e} P named holds = tt
reply_as {result = Ok a} P named holds = subst P named.same holds

lives_as : {A D : Type 0} (disk : DiskGhosts D) (header : Header) (liars : ℕ → Bool) (w : World) (toss : ℕ) (event : Event)
    (result : Result A MemberFault) (old new : Member D) (f g : A → Reply)
    → IfOk result (λ a. f a ≡ g a) → LivesBy f disk header liars w toss event result old new
    → LivesBy g disk header liars w toss event result old new
lives_as disk header liars w toss event (Ok a) old new f g same lives =
    subst (λ (r : Reply).
    Replies header w toss event r × DoesStep disk header liars w (world_step header.me event (records_of r) true) new) same lives
lives_as disk header liars w toss event (Err Device) old new f g same lives = lives
lives_as disk header liars w toss event (Err Memory) old new f g same lives = lives
lives_as disk header liars w toss event (Err JournalFull) old new f g same lives = lives
lives_as disk header liars w toss event (Err Stopped) old new f g same lives = lives
lives_as disk header liars w toss event (Err NoSuchQuestion) old new f g same lives = lives
lives_as disk header liars w toss event (Err NoSuchMember) old new f g same lives = lives

pub event_as : {A D : Type 0} {disk : DiskGhosts D} {toss : ℕ} {event : Event} {result : Result A MemberFault} {old new : Member D}
    {f g : A → Reply}
    → IsNamed result f g → IsEventBy f disk toss event old result new → IsEventBy g disk toss event old result new
event_as {disk = disk} {toss = toss} {event = event} {result = result} {old = old} {new = new} {f = f} {g = g} named e = record {
  life = λ header liars w correct at comes.
      lives_as disk header liars w toss event result old new f g named.same (e.life header liars w correct at comes);
  cut = e.cut;
}
