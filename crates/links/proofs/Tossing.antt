-- Statements that are handed in, each with the toss that was drawn for it.
use Rattle.std.proofs.Common.{◌≡◌, ◌⊎◌, inl, inr, ℕ, List, [], ◌∷◌, ◌++◌, length, refl, sym, ap, ◌∙◌, subst, append_assoc, append-nil, length-append, true, false}
use Rattle.std.proofs.lemmas.List.{map-append}
use Rattle.terms_prelude.specs.Terms.{Size, Statement}
use Rattle.wire.specs.declared.message.Version.{Version}
use Rattle.rounds.specs.declared.tosses.Toss.{Toss}
use Rattle.node.specs.Firsts.{IsLawfulSeat}
use Rattle.node.specs.Words.{SeatView, HandsIn, said_in}
use Rattle.node.proofs.Handing.{hands_on, hands_nothing}
use Rattle.links.specs.Handing.{HandsInAll, ends_whole, ReadsLink}
use Rattle.links.specs.Told.{Told}
use Rattle.links.specs.Tosses.{Draws, DrawsSome, tosses_in}
use Rattle.links.specs.Tossed.{all_of, WereHeard, HandsPart, HandsTossed, HandsTossedSome, TossesLink}
use Rattle.links.specs.declared.ends.LinkEnd.{LinkEnd}
use Rattle.links.specs.declared.ends.LinkEnd.TheVariants as end
use Rattle.links.proofs.Parts.{said-append, all_of-append, heard_on}

tosses-append : (xs ys : List (Statement × Toss)) → tosses_in (xs ++ ys) ≡ tosses_in xs ++ tosses_in ys
tosses-append xs ys = map-append (λ (e : Statement × Toss). e.1.0) xs ys

-- a session that was stopped, or had no memory
pub not_whole : (why : LinkEnd) → (why ≡ end.Stopped) ⊎ (why ≡ end.Memory) → ends_whole why ≡ true → ⊥
not_whole why (inl is) whole = let no : false ≡ true = ap ends_whole (sym is) ∙ whole in cc
not_whole why (inr is) whole = let no : false ≡ true = ap ends_whole (sym is) ∙ whole in cc

module _ {T : Type 0} (may_toss : T → ℕ → T → Type 0) where
  pub draws_on : (old mid new : T) (xs ys : List ℕ) → Draws may_toss old xs mid → Draws may_toss mid ys new → Draws may_toss old (xs ++ ys) new
  draws_on old mid new [] ys one two = subst (λ (t : T). Draws may_toss t ys new) one two
  draws_on old mid new (x ∷ xs) ys one two = (one.0, one.1, draws_on one.0 mid new xs ys one.2 two)

  pub some_on : (old mid new : T) → DrawsSome may_toss old mid → DrawsSome may_toss mid new → DrawsSome may_toss old new
  some_on old mid new one two = (one.0 ++ two.0, draws_on old mid new one.0 two.0 one.1 two.1)

  -- nothing yet
  pub tossed_none : (t : T) (seat : SeatView) → HandsTossed may_toss t t seat seat []
  tossed_none t seat = record { groups = []; said = refl; heard = refl; drawn = refl }

  -- nothing was handed in
  pub none_tossed : (first last : T) (seat : SeatView) (why : LinkEnd) (all : List Statement) → IsLawfulSeat seat → (spent : DrawsSome may_toss first last)
      → (ends_whole why ≡ true → (all ≡ []) × (spent.0 ≡ [])) → HandsTossedSome may_toss first last seat seat why all
  none_tossed first last seat why all is spent whole = record {
    groups = [];
    rest = all;
    said = refl;
    handed = hands_nothing seat is;
    heard = refl;
    spare = spent.0;
    drawn = spent.1;
    whole = whole;
  }

  -- these with their tosses were handed in
  pub tossed_all : (first last : T) (before after : SeatView) (events : List (Statement × Toss)) (all : List Statement) → HandsPart before after events []
      → said_in events ≡ all → Draws may_toss first (tosses_in events) last → HandsTossed may_toss first last before after all
  tossed_all first last before after events all part said drawn =
      let same : events ≡ all_of part.groups = part.whole ∙ append-nil (all_of part.groups) in
      record {
        groups = part.groups;
        said = ap said_in (sym same) ∙ said;
        heard = part.heard;
        drawn = subst (λ (l : List (Statement × Toss)). Draws may_toss first (tosses_in l) last) same drawn;
      }

  -- or a front of them
  pub tossed_part : (first last : T) (before after : SeatView) (why : LinkEnd) (events rest : List (Statement × Toss)) (all : List Statement) → HandsPart before after events rest
      → said_in events ≡ all → Draws may_toss first (tosses_in events) last → (ends_whole why ≡ true → rest ≡ []) → HandsTossedSome may_toss first last before after why all
  tossed_part first last before after why events rest all part said drawn whole =
      let front : List (Statement × Toss) = all_of part.groups in
      record {
        groups = part.groups;
        rest = said_in rest;
        said = sym (said-append front rest) ∙ ap said_in (sym part.whole) ∙ said;
        handed = part.handed;
        heard = part.heard;
        spare = tosses_in rest;
        drawn = subst (λ (l : List ℕ). Draws may_toss first l last) (ap tosses_in part.whole ∙ tosses-append front rest) drawn;
        whole = λ yes. (ap said_in (whole yes), ap tosses_in (whole yes));
      }

  -- and more behind what was handed in
  pub tossed_on : (first mid last : T) (before now after : SeatView) (xs ys : List Statement) → now.peer ≡ before.peer
      → HandsTossed may_toss first mid before now xs → HandsTossed may_toss mid last now after ys → HandsTossed may_toss first last before after (xs ++ ys)
  tossed_on first mid last before now after xs ys peer one two =
      let same = all_of-append one.groups two.groups in
      record {
        groups = one.groups ++ two.groups;
        said = ap said_in same ∙ said-append (all_of one.groups) (all_of two.groups) ∙ ap (λ (l : List Statement). l ++ said_in (all_of two.groups)) one.said
            ∙ ap (λ (l : List Statement). xs ++ l) two.said;
        heard = heard_on before.peer before.log now.log after.log one.groups two.groups one.heard
            (subst (λ (p : ℕ). WereHeard p now.log two.groups after.log) peer two.heard);
        drawn = subst (λ (l : List ℕ). Draws may_toss first l last) (sym (ap tosses_in same ∙ tosses-append (all_of one.groups) (all_of two.groups)))
            (draws_on first mid last (tosses_in (all_of one.groups)) (tosses_in (all_of two.groups)) one.drawn two.drawn);
      }

  pub tossed_off : (first mid last : T) (before now after : SeatView) (why : LinkEnd) (xs ys : List Statement)
      → HandsTossed may_toss first mid before now xs → HandsInAll before now xs → HandsTossedSome may_toss mid last now after why ys → HandsTossedSome may_toss first last before after why (xs ++ ys)
  tossed_off first mid last before now after why xs ys one handed two =
      let same = all_of-append one.groups two.groups in
      let a : List (Statement × Toss) = all_of one.groups in
      let b : List (Statement × Toss) = all_of two.groups in
      let said_both : said_in (all_of (one.groups ++ two.groups)) ≡ xs ++ said_in b =
      ap said_in same ∙ said-append a b ∙ ap (λ (l : List Statement). l ++ said_in b) one.said in
      record {
        groups = one.groups ++ two.groups;
        rest = two.rest;
        said = ap (λ (l : List Statement). l ++ two.rest) said_both ∙ append_assoc xs (said_in b) two.rest ∙ ap (λ (l : List Statement). xs ++ l) two.said;
        handed = subst (λ (l : List Statement). HandsInAll before after l) (sym said_both)
            (subst (λ (k : ℕ). HandsIn before after (xs ++ said_in b) k) (sym (length-append xs (said_in b)))
            (hands_on before now after xs (said_in b) _ _ handed two.handed));
        heard = heard_on before.peer before.log now.log after.log one.groups two.groups one.heard
            (subst (λ (p : ℕ). WereHeard p now.log two.groups after.log) handed.peer two.heard);
        spare = two.spare;
        drawn = subst (λ (l : List ℕ). Draws may_toss first l last)
            (sym (append_assoc (tosses_in a) (tosses_in b) two.spare) ∙ ap (λ (l : List ℕ). l ++ two.spare) (sym (ap tosses_in same ∙ tosses-append a b)))
            (draws_on first mid last (tosses_in a) (tosses_in b ++ two.spare) one.drawn two.drawn);
        whole = two.whole;
      }

  -- all of them are some
  pub some_of_all : (first last : T) (before after : SeatView) (why : LinkEnd) (all : List Statement) → HandsTossed may_toss first last before after all → HandsInAll before after all → HandsTossedSome may_toss first last before after why all
  some_of_all first last before after why all tossed handed = record {
    groups = tossed.groups;
    rest = [];
    said = append-nil (said_in (all_of tossed.groups)) ∙ tossed.said;
    handed = subst (λ (l : List Statement). HandsInAll before after l) (sym tossed.said) handed;
    heard = tossed.heard;
    spare = [];
    drawn = subst (λ (l : List ℕ). Draws may_toss first l last) (sym (append-nil (tosses_in (all_of tossed.groups)))) tossed.drawn;
    whole = λ yes. (refl, refl);
  }

  -- what was read and handed in, without the tosses
  pub reads_alone : (first last : T) (v : Version) (size : Size) (old new : Told) (before after : SeatView) (why : LinkEnd) → TossesLink may_toss first last v size old new before after why → ReadsLink v size old new before after why
  reads_alone first last v size old new before after why (inl none) = inl (none.0, none.2)
  reads_alone first last v size old new before after why (inr some) = inr some.reads
