-- `tosses` lends the tosses behind the pointer: a walk of its MIR by hand.
use Rattle.std.proofs.Common.{◌≡◌, ℕ, List, [], ◌∷◌, refl, sym, ap, ◌∙◌}
use Rattle.std.proofs.raw_atomic.Walks.{proved}
use Rattle.std.proofs.VecSteps.Shapes.{after}
use seplogic.Ra.Ura.{Ura}
use base.Fraction.{full_share}
use base.Logic.{ent, sep, never, id⊢, fst∗}
use base.Fml.{GName, Fml, ftrue, fsep, flft}
use mir.Raw.{raw as bare}
use mir.Syntax.{named}
use mir.Val.{Val, vptr}
use contract.Running.{tables}
use types.Logic.{Logic, sem}
use types.Kit.{‵, raw, ◌⊛◌, some, later, at_ret, ◌$◌, ◌∵◌, !, qed, done, move, keep, use1, split, split3, join, fsplit, fsplit3, fjoin, fjoin3, fpack, pick, await, rewrite, suffices, frame, group}
use types.Run.{enter, of_opd, addr, load, stop, fld, first, blocks, exec, returns}
use types.ByLocal.{alloc_all, pass_all, free_all, look_at, get, through, sets, sets_last, env}
use types.Part.{whole, sub, look_in}
use denote.Exit.{no}
use denote.Follow.{follows, Part, lends_Part}
use denote.Laws.{shows}
use denote.Memory.{cell_at, part_at, part_of, mem, lone}
use denote.RawPtr.{Ptr, block_ptr, null_ptr, in_a_block}
use denote.Ref.{MutRef, mut_vals, mut_Tells}
use denote.Signature.{plain, mut_ref_to}
use denote.Steps.{nothing, opens, peeks}
use denote.Struct.Struct.{Struct}
use denote.Struct.Owning.{shape, to}
use denote.Triple.Walked.{Stays, walk_of, says, stay_dropped, Goes-spent_ref, ends_at}
use Rattle.std_heap.specs.contracts.GlobalAllocator.TheImpl.{ghosts}
use Rattle.engine.specs.declared.tosses.Tosses.{Tosses}
use Rattle.engine.specs.contracts.tosses.Tosses.{the_row as C}
use Rattle.bracha_c.specs.Lends.{with_tosses}
use Rattle.bracha_c.specs.Owns.{tosses_owns}
use Rattle.bracha_c.specs.declared.toss_handle.TossHandle.{TossHandle}
use Rattle.bracha_c.specs.contracts.toss_handle.TossHandle.{the_row as R, the_type}
use Rattle.bracha_c.specs.contracts.toss_handle.TossHandle.tosses as f
use Rattle.bracha_c.proofs.toss_handle.TossHandle.TheLaws.{lowers}
use Rattle.bracha_c.proofs.toss_handle.TossHandle.tosses.Statement.{statement}
use Rattle.bracha_c.proofs.toss_handle.TossHandle.tosses.Code as code

abbrev stayed : Stays f.ended.signature.params f.ended.kept
stayed = (stay_dropped (mut_ref_to (0 ∷ []) tt (plain (λ _. R))) no, tt)

module _ {M : Type 1} {𝓤 : Ura M} (𝓛 : Logic 𝓤) (h : TossHandle) (b o b' o' : ℕ) (us : List Val) where
  abbrev Fields : Fml
  Fields = (Struct (shape the_type)).own_val (to the_type h) us

  -- all of the handle but its tosses
  abbrev Rest : Fml
  Rest = fsep (ghosts.dealloc_token h.alloc (bare (lone C.mir)) (block_ptr b' o')) (fsep Fields (cell_at full_share R.mir us b o))

  back : h.at ≡ block_ptr b' o' → (w : Tosses) → ent 𝓤 (sep 𝓤 (sem 𝓛 ((mem C).own_at w b' o')) (sem 𝓛 Rest)) (sem 𝓛 ((mem R).own_at (with_tosses h w) b o))
  unfolding part_of
  back e w =
      qed 𝓛 (‵ (part_at C full_share w b' o') ∷ ‵ Rest ∷ []) ∵ move ! (1 ∷ []) $ fsplit3 ! $ move ! (3 ∷ 0 ∷ []) $ fjoin ! $
      rewrite ! 0 (λ (p : Ptr). ‵ (tosses_owns h.alloc p w)) (sym e) refl $ move ! (1 ∷ 0 ∷ []) $ fjoin ! $ move ! (1 ∷ 0 ∷ []) $ fjoin ! $
      fpack ! (List Val) (λ ws. fsep (cell_at full_share R.mir ws b o) (R.own_val (with_tosses h w) ws)) us $ done !

pub tosses_spec : {M : Type 1} → statement M
tosses_spec 𝓤 𝓛 𝓜 𝓡 wired =
    let c = f.clauses 𝓛 𝓜.mem 𝓡.returns in let W = walk_of 𝓛 f.ended stayed c in let 𝓣 = tables 𝓤 𝓛.H 𝓜 𝓡 𝓡.env in
    proved 𝓛 f.ended stayed c 𝓜 𝓡 (Goes-spent_ref 𝓛 1 (0 ∷ []) tt (plain (λ _. R)), tt)
    f.Key.name code.function (code.unfolded 𝓤 𝓛.H 𝓜 𝓡 wired)
    (λ κs. (mut_vals, tt)) (λ κs. (mut_Tells (named 0) κs.0 R, tt)) (λ κs qs bounds a _ are.
    let κ = κs.0 in let q = qs.0 in let b = a.0.ref_ptr.0 in let o = a.0.ref_ptr.1 in let γ = a.0.ghost_name in let h = a.0.now in let vs = mut_vals a.0 in
    let y : W.Ghost = ((κs, qs, bounds, a, (vs, tt)), tt) in
    qed 𝓛 (((‵ (flft κ q) ⊛ ‵ ftrue) ⊛ ‵ ((MutRef (named 0) κ R).own_val a.0 vs) ⊛ ‵ ftrue) ∷ ‵ ftrue ∷ []) ∵
    split ! $ split ! $ move ! (2 ∷ []) $ split ! $ keep ! (0 ∷ 2 ∷ []) $
    enter ! _ _ _ _ _ $ alloc_all ! (λ l. pass_all ! refl ((tt, tt), tt) $
    fsplit3 ! $ move ! (1 ∷ 2 ∷ 3 ∷ []) $ opens ! tt R b o (λ us.
    move ! (1 ∷ []) $ peeks ! R _ (shows 𝓛 R) h us (λ is. fsplit ! $ move ! (1 ∷ []) $
    -- [what it owns beside its fields; the fields; the cell; the open borrow, in three entries; ..]
    in_a_block ! h.at (λ p. tosses_owns h.alloc p h.tosses) (fst∗ 𝓤 (never 𝓤) (sem 𝓛 (ghosts.dealloc_token h.alloc (bare (lone C.mir)) null_ptr))) (λ b' o' e.
    let word = lowers.val_is h us is ∙ ap (λ (p : Ptr). lowers.lowered (record h { at = p }) ∷ []) e in
    let Cell = λ (ws : List Val). ‵ (cell_at full_share R.mir ws b o) in
    let way = back 𝓛 h b o b' o' us e in
    rewrite ! 2 Cell word refl $
    first ! $ blocks ! $
    sets ! (of_opd ! (load ! (through ! refl (fld ! refl (stop !))) (look_in ! 2 (sub ! 0 refl (whole !))))) refl (tt, tt) $
    sets ! (of_opd ! (get ! refl)) refl (tt, tt) $
    sets_last ! (addr ! (through ! refl (stop !))) refl (tt, tt) $
    exec ! 𝓣.C 𝓣.Λ (env code.Mir.locals l) (after 1 (code.function).body) (at_ret _ (W.post y)) $
    sets ! (of_opd ! (get ! refl)) refl (tt, tt) $
    rewrite ! 2 Cell (sym word) refl $
    -- [the tosses and their token; the fields; the cell; ..]
    fsplit ! $ move ! (1 ∷ 2 ∷ 3 ∷ []) $ fjoin3 ! $ move ! (2 ∷ 3 ∷ 4 ∷ 1 ∷ 0 ∷ []) $ group ! 5 $
    use1 𝓛 (later (some (λ (γ' : GName). raw (Part 𝓛 R C (with_tosses h) (named 0) κ q b o b' o' γ (sem 𝓛 (Rest 𝓛 h b o b' o' us)) way h.tosses γ'))))
    (lends_Part 𝓛 R C (with_tosses h) (named 0) κ q b o b' o' γ (sem 𝓛 (Rest 𝓛 h b o b' o' us)) way (R.coded.code h) (R.coded.code h) h.tosses) $ await ! tt $ pick ! (λ γ'.
    returns ! (look_at ! 0 refl) $ free_all ! refl $ keep ! (0 ∷ []) $
    use1 𝓛 (‵ ((MutRef (named 0) κ C).own_val (record { ref_ptr = (b', o'); ghost_name = γ'; now = h.tosses }) (vptr b' o' ∷ [])) ⊛ ‵ (flft κ q) ⊛ ‵ (follows R C γ γ' (with_tosses h))) (id⊢ 𝓤 _) $ split3 ! $
    -- [the loan; the token; what follows]
    suffices ! _ (ends_at 𝓛 f.ended stayed c y (vptr b' o') (record { ref_ptr = (b', o'); ghost_name = γ'; now = h.tosses }) (tt, tt) (tt, tt)) $
    nothing ! $ nothing ! $ fjoin ! $ join ! $ nothing ! $ move ! (2 ∷ 0 ∷ []) $ join ! $ join ! $ frame ! $ says ! refl $ done !))))))
