use Rattle.std.proofs.Common.{◌≡◌, ◌∙◌, ◌++◌, ◌∷◌, [], ℕ, List, Option, None, Some, inl, inr, refl, sym, ap, subst, arith, append-nil}
use Rattle.std.specs.Io.KnownBytes.{Consumes}
use Rattle.commands.specs.Transcripts.{CountsNone, IsTranscriptReply, lines_text}
use Rattle.commands.proofs.Lines.{consumes_on}
use Rattle.commands.proofs.transcript.whole_reply.Goals as goal

nothing : (n : ℕ) → ◌≡◌ {A = Option ℕ} None (Some n) → ⊥
nothing n e = cc

pub returns-in-None : goal.returns-in-None
returns-in-None g c =
    let first : List ℕ = c.in_ok-reply.reply.items in
    let none : CountsNone first = λ q b n asked few is. nothing n (c.in-None.ensures.exact q b n asked few (c.deref.ensures.value ∙ is)) in (
      record {
        first = first;
        others = [];
        whole = c.in_ok-push.ensures.items ∙ sym (append-nil (first ++ 10 ∷ []));
        first_ends = c.in_ok-reply.ensures.0;
        others_end = λ k d l. absurd (omega (arith, l));
        others_shown = λ k d l. absurd (omega (arith, l));
        counted = inr (none, refl, refl);
      },
      subst (λ (l : List ℕ). Consumes (g.R.Read.remaining c.args.from.now) (g.R.Read.remaining c.reply_of.new.connection) l) (sym c.in_ok-push.ensures.items) c.in_ok-reply.ensures.1,
    )
