-- `into_box` gives what the handle owns to `Box::from_raw`: a walk of its MIR by hand.
use Rattle.std.proofs.Common.{◌≡◌, List, [], ◌∷◌, ◌++◌, refl}
use Rattle.std.proofs.raw_atomic.Walks.{proved_at}
use base.Fraction.{full_share}
use base.Logic.{emp, id⊢}
use base.Fml.{Lft, ftrue, fsep, flft}
use contract.BorrowLft.{◌⊑◌, ⊑_refl}
use contract.Monad.{fact, fact_i}
use contract.Running.{tables}
use mir.Val.{Val, vptr}
use prog.Wp.{WpFn}
use types.Kit.{‵, raw, ◌⊛◌, some, later, prop, at_ret, ◌$◌, ◌∵◌, !, qed, done, move, keep, drop, use0, use1, split, split3, join, fjoin, feq_i, pick, await, regoal, suffices}
use types.Run.{enter, of_opd, stop, fld, no_more, and_then, first, blocks, exec, returns}
use types.ByLocal.{alloc_all, pass_all, free_all, look_at, get, get_in, sets, lands_last, env}
use types.Part.{whole, sub}
use denote.Exit.{yes}
use denote.Laws.{shows}
use denote.Param.NoDrop.{glues}
use denote.RawPtr.{block_ptr}
use denote.Signature.{plain}
use denote.Steps.{nothing, heard, peeks}
use denote.Triple.Call.{calls_at_last}
use denote.Triple.Spec.{triple_of}
use denote.Triple.Table.{framed}
use denote.Triple.Walked.{Stays, walk_of, says, stay_dropped, Goes-dropped, ends_at}
use Rattle.std_alloc.specs.contracts.boxed.Box.from_raw as g
use Rattle.std_alloc.proofs.boxed.Box.from_raw.Met.{met}
use Rattle.std_alloc.proofs.boxed.Box.TheLaws.{the_field_loose}
use Rattle.std_alloc.proofs.BoxSteps.Form.{D, B, box_typed}
use Rattle.std_alloc.proofs.BoxSteps.Steps.{box_out}
use Rattle.std_heap.specs.contracts.GlobalAllocator.TheImpl.{ghosts, dict}
use Rattle.std_heap.proofs.GlobalAllocator.TheImpl.Met.{passed}
use Rattle.bracha_c.specs.contracts.handle.Handle.{the_row as H}
use Rattle.bracha_c.specs.contracts.handle.Handle.into_box as f
use prog.Routine.{Env}
use prog.Wired.{Wired, node, end}
use denote.Param.NoDrop as no_drop_code
use Rattle.bracha_c.proofs.Boxes.{engine_box, no_drop, engine_row as C, engine_row_laws as C-laws, heap_row as A, heap_row_laws as A-laws}
use Rattle.bracha_c.proofs.Destruct++none.drop.Code as dropped
use Rattle.bracha_c.proofs.handle.Handle.into_box.Statement.{statement}
use Rattle.bracha_c.proofs.handle.Handle.into_box.Code as code

abbrev stayed : Stays f.ended.signature.params f.ended.kept
stayed = (stay_dropped (plain (λ _. H)) yes, tt)

-- the lifetime of a type that names none
abbrev static : Lft
static = []

-- the allocator's drop is the one that does nothing
drops_nothing : (γ : Env) → Wired γ dropped.code → Wired γ (node (("bracha_c::Destruct++none::drop", no_drop_code.function) ∷ []) [] end)
unfolding dropped.code
drops_nothing γ wired = wired

pub into_box_spec : {M : Type 1} → statement M
into_box_spec {M} 𝓤 𝓛 𝓜 𝓡 wired =
    let c = f.clauses 𝓛 𝓜.mem 𝓡.returns in let W = walk_of 𝓛 f.ended stayed c in let 𝓣 = tables 𝓤 𝓛.H 𝓜 𝓡 𝓡.env in
    proved_at 𝓛 f.ended stayed c 𝓜 𝓡 (Goes-dropped 𝓛 0 (plain (λ _. H)) yes (λ κs x v. refl), tt)
    f.Key.name code.function (code.unfolded 𝓤 𝓛.H 𝓜 𝓡 wired) (λ y are.
    let h = y.0.3.0 in let vs = y.0.4.0 in let a = h.alloc in
    let d : D engine_box = record { ptr = h.at; alloc = a; value = h.engine } in
    let G = triple_of 𝓛 (g.signature C A ghosts dict no_drop) (g.spec C A ghosts dict no_drop 𝓛 𝓜.mem 𝓡.returns) in
    let In = raw (fact 𝓤 (static ⊑ static)) in let within = fact_i 𝓤 (static ⊑ static) (emp 𝓤) (⊑_refl static) in
    let Token = ‵ (flft static full_share) in let free = 𝓛.lfts.lft-nil full_share in
    qed 𝓛 ((‵ ftrue ⊛ ‵ ((B engine_box).own_val d vs) ⊛ ‵ ftrue) ∷ ‵ ftrue ∷ []) ∵ split ! $ drop ! $ split ! $
    box_out engine_box ! d vs (λ b o hv e is fits. fjoin ! $
    -- [what a box of it owns; the allocator; ..]
    let z : G.Ghost = (((static, (static, tt)), (full_share, (full_share, tt)), tt, (a, (block_ptr b o, tt)), (hv ∷ [], (vptr b o ∷ [], tt))), h.engine) in
    regoal ! (λ us. prop (WpFn 𝓤 𝓛.H 𝓣.C 𝓣.Λ code.function (us ++ []) (W.post y))) is refl $
    enter ! _ _ _ _ _ $ alloc_all ! (λ l. pass_all ! refl (box_typed engine_box hv b o fits, tt) $
    sets ! (of_opd ! (get_in ! (fld ! refl (stop !)) (sub ! 0 refl (whole !)))) refl (tt, tt) $
    sets ! (of_opd ! (get_in ! (fld ! refl (stop !)) (sub ! 1 refl (whole !)))) refl fits $
    first ! $ blocks ! $
    sets ! (of_opd ! (get ! refl)) refl (tt, tt) $
    -- what the call wants: that both types live so long, and the box's memory
    use0 𝓛 In within $ join ! $ use0 𝓛 In within $ join ! $
    -- the arguments
    nothing ! $ feq_i ! (List Val) (vptr b o ∷ []) (vptr b o ∷ []) refl $ fjoin ! $ move ! (2 ∷ 0 ∷ []) $ fjoin ! $
    -- the tokens
    nothing ! $ use0 𝓛 Token free $ join ! $ use0 𝓛 Token free $ join ! $ join ! $ join ! $ use1 𝓛 (raw (G.pre z)) (id⊢ 𝓤 _) $
    calls_at_last ! (framed 𝓤 𝓛.H 𝓜 𝓣) G
    (met 𝓤 𝓛 𝓜 𝓡 (code.calls-std_alloc::boxed::Box::from_raw 𝓡.env wired) C A C-laws A-laws ghosts dict no_drop
    (passed 𝓡.env (code.calls-std_heap::GlobalAllocator::allocate 𝓡.env wired) (code.calls-std_heap::GlobalAllocator::deallocate 𝓡.env wired)
    (code.calls-std_heap::GlobalAllocator::grow 𝓡.env wired) (code.calls-std_heap::GlobalAllocator::shrink 𝓡.env wired) M 𝓤 𝓛 𝓜 𝓡)
    (glues "bracha_c::Destruct++none::drop" 𝓡.env (drops_nothing 𝓡.env (code.calls-bracha_c::Destruct++none::drop 𝓡.env wired)) A A-laws M 𝓤 𝓛 𝓜 𝓡)) z
    (and_then ! (get ! refl) (and_then ! (get ! refl) (no_more !))) (λ u.
    use1 𝓛 (later (some (λ (r : D engine_box). ((Token ⊛ Token ⊛ ‵ ftrue) ⊛ ‵ ((B engine_box).own_val r (u ∷ []))) ⊛
    some (λ (_ : Unit {0} × (Unit {0} × Unit {0})). ‵ (fsep ftrue (fsep ftrue ftrue)) ⊛ (raw (fact 𝓤 (r.value ≡ h.engine)) ⊛ raw (fact 𝓤 (r.alloc ≡ a))))))) (id⊢ 𝓤 _) $
    await ! tt $ pick ! (λ r. split ! $ move ! (1 ∷ []) $ pick ! (λ _. split3 ! $ drop ! $ heard ! (r.value ≡ h.engine) (λ same. drop ! $ split ! $ drop ! $
    -- [the box; ..]
    peeks ! (B engine_box) _ (shows 𝓛 (B engine_box)) r (u ∷ []) (λ laid.
    let typed = ((the_field_loose C A ghosts C-laws A-laws).lawful 𝓛).typed r (u ∷ []) laid in
    lands_last ! refl typed.0 $ exec ! 𝓣.C 𝓣.Λ (env code.Mir.locals l) code.Mir.t-4 (at_ret _ (W.post y)) $
    sets ! (of_opd ! (get ! refl)) refl typed.0 $
    returns ! (look_at ! 0 refl) $ free_all ! refl $ keep ! (0 ∷ []) $
    suffices ! _ (ends_at 𝓛 f.ended stayed c y u r (tt, tt) (tt, tt)) $ says ! same $
    nothing ! $ nothing ! $ join ! $ nothing ! $ done !))))))))
