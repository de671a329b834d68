-- The frame of several statements, as it is written.
use Rattle.std.proofs.Common.{ℕ, suc, ◌≡◌, ◌+◌, ◌<◌, List, [], ◌++◌, length, get_or, drop, refl, sym, ap, ◌∙◌, append_assoc, append-nil, arith}
use Rattle.std.proofs.Math.Seq.{drop-cons}
use Rattle.terms_prelude.specs.Terms.{Statement}
use Rattle.statement_codec.specs.Statements.{statement_bytes}
use Rattle.wire.specs.Words.{frame_bytes, head_bytes, statements_bytes}
use Rattle.wire.specs.declared.message.Message.TheVariants as message
use Rattle.wire.specs.declared.message.Head.TheVariants as head
use Rattle.wire.proofs.Several.{many_text}

-- what was written of statements so far: with the bytes of those that are left it is all of them
pub record Written (old : List ℕ) (many : List Statement) (index : ℕ) (new : List ℕ) : Type 0 where
  pub more : List ℕ
  pub grew : new ≡ old ++ more
  pub left : more ++ statements_bytes (drop index many) ≡ statements_bytes many

-- none yet
pub none_written : (old : List ℕ) (many : List Statement) → Written old many 0 old
none_written old many = record { more = []; grew = sym (append-nil old); left = refl }

-- one more
pub one_written : (old : List ℕ) (many : List Statement) (index : ℕ) (mid new : List ℕ) (s : Statement) → Written old many index mid
    → index < length many → s ≡ get_or many index s → new ≡ mid ++ statement_bytes s → Written old many (index + 1) new
one_written old many index mid new s w lt is added =
    let next : index + 1 ≡ suc index = omega arith in
    record {
      more = w.more ++ statement_bytes s;
      grew = added ∙ ap (λ (t : List ℕ). t ++ statement_bytes s) w.grew ∙ append_assoc old w.more (statement_bytes s);
      left = ap (λ (i : ℕ). (w.more ++ statement_bytes s) ++ statements_bytes (drop i many)) next
          ∙ append_assoc w.more (statement_bytes s) (statements_bytes (drop (suc index) many))
          ∙ ap (λ (t : Statement). w.more ++ (statement_bytes t ++ statements_bytes (drop (suc index) many))) is
          ∙ ap (λ (t : List Statement). w.more ++ statements_bytes t) (sym (drop-cons many index s lt))
          ∙ w.left;
    }

-- the frame of them, behind its head
pub many_written : (old mid new : List ℕ) (many : List Statement) → mid ≡ old ++ head_bytes (head.Statements (length many))
    → new ≡ mid ++ statements_bytes many → new ≡ old ++ frame_bytes (message.Statements many)
many_written old mid new many e f =
    f ∙ ap (λ (t : List ℕ). t ++ statements_bytes many) e
    ∙ append_assoc old (head_bytes (head.Statements (length many))) (statements_bytes many)
    ∙ ap (λ (t : List ℕ). old ++ t) (sym (many_text many (length many) refl))
