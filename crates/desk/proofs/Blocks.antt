-- A transcript that is written a block at a time.
use Rattle.std.proofs.Common.{◌≡◌, ◌∙◌, ℕ, ◌+◌, ◌<◌, ◌≤◌, Bool, refl, sym, ap, subst, arith, List, [], ◌∷◌, ◌++◌, length, take, drop, get_or, take-append-drop, append_assoc, append-nil}
use Rattle.std.specs.List.{flat_map}
use Rattle.std.proofs.lemmas.Grind.{flat_map-append}
use Rattle.std.proofs.Math.Seq.{take-length}
use Rattle.std.proofs.lemmas.List.{take_more}
use Rattle.terms_prelude.specs.Terms.{Statement}
use Rattle.numerals.specs.Lines.{line}
use Rattle.links.specs.Told.{Told, has_written, has_failed}
use Rattle.transcripts.specs.Lines.{head_line, pair_line, transcript_text}
use Rattle.desk.specs.Turns.{Loses}
use Rattle.desk.proofs.Holding.{holds_more, nothing_broke, written_on}

-- the lines of statements
abbrev pub lines : List (ℕ × Statement) → List ℕ
lines pairs = flat_map (λ e. line (pair_line e)) pairs

-- a byte 10 before each is one behind each
moved : (pairs : List (ℕ × Statement)) → flat_map (λ e. 10 ∷ pair_line e) pairs ++ 10 ∷ [] ≡ 10 ∷ lines pairs
moved [] = refl
moved (e ∷ pairs) =
    append_assoc (10 ∷ pair_line e) (flat_map (λ e. 10 ∷ pair_line e) pairs) (10 ∷ [])
    ∙ ap (λ (l : List ℕ). 10 ∷ (pair_line e ++ l)) (moved pairs)
    ∙ ap (λ (l : List ℕ). 10 ∷ l) (sym (append_assoc (pair_line e) (10 ∷ []) (lines pairs)))

pub lined : (question : ℕ) (bit : Bool) (pairs : List (ℕ × Statement))
    → line (transcript_text question bit pairs) ≡ line (head_line question bit (length pairs)) ++ lines pairs
lined question bit pairs =
    append_assoc (head_line question bit (length pairs)) (flat_map (λ e. 10 ∷ pair_line e) pairs) (10 ∷ [])
    ∙ ap (λ (l : List ℕ). head_line question bit (length pairs) ++ l) (moved pairs)
    ∙ sym (append_assoc (head_line question bit (length pairs)) (10 ∷ []) (lines pairs))

-- the first line is held
pub puts_first : (start now : Told) (head left longer : List ℕ) → has_written now left ≡ start → longer ≡ left ++ head
    → has_written now longer ≡ has_written start (head ++ lines [])
puts_first start now head left longer same is = holds_more start now head left longer same is ∙ ap (λ (l : List ℕ). has_written start l) (sym (append-nil head))

-- one line more is held
pub puts_one : (start now new : Told) (head held left longer : List ℕ) (shown more : List (ℕ × Statement)) (pair : ℕ × Statement)
    → has_written now held ≡ has_written start (head ++ lines shown) → has_written new left ≡ has_written now held
    → longer ≡ left ++ line (pair_line pair) → more ≡ shown ++ pair ∷ [] → has_written new longer ≡ has_written start (head ++ lines more)
puts_one start now new head held left longer shown more pair so same is next =
    holds_more (has_written start (head ++ lines shown)) new (line (pair_line pair)) left longer (same ∙ so) is
    ∙ written_on start (head ++ lines shown) (line (pair_line pair))
    ∙ ap (λ (l : List ℕ). has_written start l) (append_assoc head (lines shown) (line (pair_line pair))
    ∙ ap (λ (l : List ℕ). head ++ l)
    (sym (ap lines next ∙ flat_map-append (λ e. line (pair_line e)) shown (pair ∷ []) ∙ ap (λ (l : List ℕ). lines shown ++ l) (append-nil (line (pair_line pair))))))

-- all lines are held or written
pub all_out : (start now : Told) (question : ℕ) (bit : Bool) (pairs shown : List (ℕ × Statement)) (held : List ℕ)
    → has_written now held ≡ has_written start (line (head_line question bit (length pairs)) ++ lines shown) → shown ≡ pairs
    → has_written now held ≡ has_written start (line (transcript_text question bit pairs))
all_out start now question bit pairs shown held so all =
    so ∙ ap (λ (l : List ℕ). has_written start l)
    (ap (λ (ps : List (ℕ × Statement)). line (head_line question bit (length pairs)) ++ lines ps) all ∙ sym (lined question bit pairs))

-- a write failed behind some of them
pub breaks_within : (start now new : Told) (question : ℕ) (bit : Bool) (pairs shown others : List (ℕ × Statement)) (held : List ℕ)
    → has_written now held ≡ has_written start (line (head_line question bit (length pairs)) ++ lines shown) → shown ++ others ≡ pairs
    → Loses (has_written now held) new [] → Loses start new (line (transcript_text question bit pairs))
breaks_within start now new question bit pairs shown others held so all lost =
    let head : List ℕ = line (head_line question bit (length pairs)) in
    record {
      unsaid = lost.unsaid;
      few = lost.few;
      broke = record {
        part = head ++ lines shown;
        rest = lines others;
        whole = lined question bit pairs
            ∙ ap (λ (ps : List (ℕ × Statement)). head ++ lines ps) (sym all)
            ∙ ap (λ (l : List ℕ). head ++ l) (flat_map-append (λ e. line (pair_line e)) shown others)
            ∙ sym (append_assoc head (lines shown) (lines others));
        now = nothing_broke (has_written now held) (has_written new lost.unsaid) lost.broke ∙ ap has_failed so;
      };
    }

-- with one line more
pub shown_next : (pairs : List (ℕ × Statement)) (i : ℕ) (pair : ℕ × Statement) → pair ≡ get_or pairs i pair → i < length pairs → take (i + 1) pairs ≡ take i pairs ++ pair ∷ []
shown_next pairs i pair at within = take_more pairs i pair within ∙ ap (λ (e : ℕ × Statement). take i pairs ++ e ∷ []) (sym at)
