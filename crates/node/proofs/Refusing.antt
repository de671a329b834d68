-- Statements that name a question or a member that there isn't are refused, and nothing changes.
use Rattle.std.proofs.Common.{ℕ, ◌≡◌, ◌⊎◌, inl, inr, refl, sym, ◌∙◌, subst, nat_le, if◌then◌else◌, Bool, true, false, Option, Some, None, Err, [], ◌∷◌}
use Rattle.std.specs.List.{list_any}
use Rattle.terms_prelude.specs.Terms.{Event, Hearing, Header, Statement, Size, keep_or}
use Rattle.questions.specs.declared.answer.CoreFault.TheVariants as cores
use Rattle.questions.specs.Faults.{number_fault}
use Rattle.disk.specs.declared.device.Disk.{Ghosts as DiskGhosts}
use Rattle.world.specs.World.{World}
use Rattle.member.specs.declared.fault.MemberFault.{MemberFault}
use Rattle.member.specs.declared.fault.MemberFault.TheVariants.{Stopped, NoSuchQuestion, NoSuchMember}
use Rattle.member.specs.declared.member.Member.{Member}
use Rattle.member.specs.Words.{IsFaultOf, Lives, LivesAll, Stops, bad_number, event_members, event_question, fault_of, member_header, member_is_stopped}
use Rattle.node.specs.Books.{RefusesEvent}
use Rattle.node.specs.Groups.{RefusesAll}
use Rattle.node.specs.Lives.{Spares}
use Rattle.node.specs.Words.{BookView, Group}

-- it names a bad number
abbrev pub IsBad : MemberFault → Type 0
IsBad fault = (fault ≡ NoSuchQuestion) ⊎ (fault ≡ NoSuchMember)

first_bad : (over strange : Bool) (others : Option MemberFault) (fault : MemberFault)
    → keep_or (fault_of (if over then Some cores.NoSuchQuestion else (if strange then Some cores.NoSuchMember else None))) others ≡ Some fault
    → (others ≡ Some fault → IsBad fault) → IsBad fault
first_bad true strange others fault is later = inl cc
first_bad false true others fault is later = inr cc
first_bad false false others fault is later = later is

pub bad_faults : (size : Size) (es : Group) (fault : MemberFault) → bad_number size es ≡ Some fault → IsBad fault
bad_faults size [] fault is = absurd cc
bad_faults size (e ∷ es) fault is =
    first_bad (nat_le size.questions e.1.place.question) (list_any (λ x. nat_le size.n x) (e.0 ∷ e.1.place.origin ∷ [])) (bad_number size es) fault is
    (λ later. bad_faults size es fault later)

-- what holds of both such faults
by_both : (P : MemberFault → Type 0) (fault : MemberFault) → IsBad fault → P NoSuchQuestion → P NoSuchMember → P fault
by_both P fault (inl is) question member = subst P (sym is) question
by_both P fault (inr is) question member = subst P (sym is) member

pub bad_lives : {D : Type 0} (disk : DiskGhosts D) (header : Header) (liars : ℕ → Bool) (w : World) (es : Group) (fault : MemberFault) (m : Member D)
    → IsBad fault → LivesAll disk header liars w es (Err fault) m m
bad_lives disk header liars w es fault m bad = by_both (λ f. LivesAll disk header liars w es (Err f) m m) fault bad refl refl

pub bad_spares : {D : Type 0} (disk : DiskGhosts D) (Full : Type 0) (fault : MemberFault) (m : Member D) → IsBad fault → Spares disk Full fault m m
bad_spares disk Full fault m bad =
    by_both (λ f. Spares disk Full f m m) fault bad
    (record { same_disk = λ which. refl; device = λ e. cc; full = λ e. cc })
    (record { same_disk = λ which. refl; device = λ e. cc; full = λ e. cc })

up_and_bad : (stopped : Bool) (bad : Option MemberFault) (fault : MemberFault) → stopped ≡ false → bad ≡ Some fault
    → IsFaultOf (if stopped then Some Stopped else bad) fault
up_and_bad stopped bad fault up is = subst (λ (o : Option MemberFault). IsFaultOf o fault) (sym ((λ i. if up i then Some Stopped else is i))) refl

pub bad_refuses : {D : Type 0} (b : BookView D) (es : Group) (fault : MemberFault) → member_is_stopped b.member ≡ false → bad_number (member_header b.member).size es ≡ Some fault
    → RefusesAll b es fault b
bad_refuses b es fault up is = record {
  cause = inl (up_and_bad (member_is_stopped b.member) (bad_number (member_header b.member).size es) fault up is);
  same = λ going. refl;
  stops = λ stops. absurd (by_both (λ f. Stops f → ⊥) fault (bad_faults (member_header b.member).size es fault is) (λ s. s) (λ s. s) stops);
  stays = record { saved = refl; history = refl; opening = refl; header = refl; known = refl };
}

-- the same of one statement

none_behind : (o : Option MemberFault) → keep_or o None ≡ o
none_behind None = refl
none_behind (Some fault) = refl

pub bad_lives_one : {D : Type 0} (disk : DiskGhosts D) (header : Header) (liars : ℕ → Bool) (w : World) (toss : ℕ) (event : Event) (fault : MemberFault) (m : Member D)
    → IsBad fault → Lives disk header liars w toss event (Err fault) m m
bad_lives_one disk header liars w toss event fault m bad = by_both (λ f. Lives disk header liars w toss event (Err f) m m) fault bad refl refl

pub bad_refuses_one : {D : Type 0} (b : BookView D) (from : ℕ) (s : Statement) (toss : ℕ) (fault : MemberFault)
    → member_is_stopped b.member ≡ false → bad_number (member_header b.member).size ((from, s, toss) ∷ []) ≡ Some fault → RefusesEvent b (Hearing from s) fault b
bad_refuses_one b from s toss fault up is = record {
  cause = inl (up_and_bad (member_is_stopped b.member) (fault_of (number_fault (member_header b.member).size (event_question (Hearing from s)) (event_members (Hearing from s)))) fault up
      (sym (none_behind (fault_of (number_fault (member_header b.member).size (event_question (Hearing from s)) (event_members (Hearing from s))))) ∙ is));
  same = λ going. refl;
  stops = λ stops. absurd (by_both (λ f. Stops f → ⊥) fault (bad_faults (member_header b.member).size ((from, s, toss) ∷ []) fault is) (λ s. s) (λ s. s) stops);
  stays = record { saved = refl; history = refl; opening = refl; header = refl; known = refl };
}
