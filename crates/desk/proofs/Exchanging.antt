-- What a session has answered.
use Rattle.std.proofs.Common.{◌≡◌, ◌⊎◌, ℕ, zero, suc, ◌+◌, ◌<◌, ◌≤◌, ◌==◌, List, [], ◌∷◌, ◌++◌, length, inl, inr, refl, sym, ap, ◌∙◌, subst, arith, false, Result, Err, append_assoc, append-nil, length-append}
use Rattle.std.specs.List.{flat_map}
use Rattle.std.proofs.lemmas.Grind.{flat_map-append}
use Rattle.std.proofs.lemmas.List.Elements.{All-append}
use Rattle.numerals.specs.Lines.{NoEnd, line}
use Rattle.terms_prelude.specs.Terms.{Header, Record}
use Rattle.links.specs.Told.{Told, has_read, has_written, has_failed, has_ended, BreaksOff}
use Rattle.desk.specs.declared.command.Command.{Command}
use Rattle.desk.specs.declared.reply.Reply.{Reply}
use Rattle.desk.specs.declared.reply.Reply.TheVariants.{BadLine}
use Rattle.desk.specs.declared.serving.DeskEnd.{DeskEnd}
use Rattle.desk.specs.declared.serving.DeskEnd.TheVariants as end
use Rattle.desk.specs.Replies.{reply_text}
use Rattle.desk.specs.Commands.{Parses, command_for}
use Rattle.desk.specs.Sessions.{Sitting, AnswersRequest, AnswersLine, IsLine, Exchange, IsExchange, InTurn, AllGoOn, GoesOn, asked_in, replied_in, exchanged, BeginsRequest, BeginsToFollow, EndsBy, IsTooLong, LosesReplies, Serves, ServesTogether}
use Rattle.desk.specs.Lines.{AsksToFollow, IsOfBrowser}
use Rattle.desk.specs.Turns.{Says, FailsToSay, Leaves, Refuses, IsLeft, Serving}
use Rattle.desk.proofs.Holding.{nothing_broke}

-- the reply to the command or refusal that a line is found to be is the reply to the line
pub answers_line : {T : Type 0} (D : Type 0) (may_toss : T → ℕ → T → Type 0) (header : Header) (opening : List Record) (count : ℕ) (before after : Sitting T) (asked : List ℕ)
    (parsed found : Result Command Reply) (reply : Reply) → Parses count asked parsed → count ≡ header.size.questions → parsed ≡ found
    → AnswersRequest D may_toss header opening before found reply after → AnswersLine D may_toss header opening before asked reply after
answers_line D may_toss header opening count before after asked parsed found reply (inl nothing) same is answers =
    let refused : AnswersRequest D may_toss header opening before (Err BadLine) reply after = subst (λ p. AnswersRequest D may_toss header opening before p reply after) (sym is ∙ nothing.1) answers in
    inl (nothing.0, refused.0, refused.1)
answers_line D may_toss header opening count before after asked parsed found reply (inr request) same is answers =
    inr (request.0, request.1, subst (λ p. AnswersRequest D may_toss header opening before p reply after) (sym is ∙ request.2 ∙ ap (λ n. command_for n request.0) same) answers)

-- what was read and written

flat_map-more : (f : Exchange → List ℕ) (xs : List Exchange) (x : Exchange) → flat_map f (xs ++ x ∷ []) ≡ flat_map f xs ++ f x
flat_map-more f xs x = flat_map-append f xs (x ∷ []) ∙ ap (λ (l : List ℕ). flat_map f xs ++ l) (append-nil (f x))

asked_more : (xs : List Exchange) (x : Exchange) (more : List ℕ) → asked_in (xs ++ x ∷ []) ++ more ≡ asked_in xs ++ (x.asked ++ 10 ∷ more)
asked_more xs x more =
    ap (λ (l : List ℕ). l ++ more) (flat_map-more (λ x. line x.asked) xs x)
    ∙ append_assoc (asked_in xs) (line x.asked) more
    ∙ ap (λ (l : List ℕ). asked_in xs ++ l) (append_assoc x.asked (10 ∷ []) more)

replied_more : (old : List ℕ) (xs : List Exchange) (x : Exchange) → old ++ replied_in (xs ++ x ∷ []) ≡ (old ++ replied_in xs) ++ line (reply_text x.reply)
replied_more old xs x =
    ap (λ (l : List ℕ). old ++ l) (flat_map-more (λ x. line (reply_text x.reply)) xs x)
    ∙ sym (append_assoc old (replied_in xs) (line (reply_text x.reply)))

one_more : (old : Told) (xs : List Exchange) (x : Exchange) (more : List ℕ)
    → exchanged old (xs ++ x ∷ []) more ≡ has_written (exchanged old xs (x.asked ++ 10 ∷ more)) (line (reply_text x.reply))
one_more old xs x more = λ i. record old {
  taken = old.taken ++ asked_more xs x more i;
  written = replied_more old.written xs x i;
}

read_behind : (old : Told) (xs : List Exchange) (held piece : List ℕ)
    → has_read (exchanged old xs (held ++ [])) piece ≡ exchanged old xs (held ++ piece)
read_behind old xs held piece =
    let nothing : held ++ [] ≡ held = append-nil held in
    let whole : (old.taken ++ (asked_in xs ++ held)) ++ piece ≡ old.taken ++ (asked_in xs ++ (held ++ piece)) =
    append_assoc old.taken (asked_in xs ++ held) piece ∙ ap (λ (l : List ℕ). old.taken ++ l) (append_assoc (asked_in xs) held piece) in
    ap (λ (l : List ℕ). has_read (exchanged old xs l) piece) nothing
    ∙ ap (λ (l : List ℕ). record old { taken = l; written = old.written ++ replied_in xs }) whole

no_end-append : (xs ys : List ℕ) → NoEnd xs → NoEnd ys → NoEnd (xs ++ ys)
no_end-append [] ys p q = q
no_end-append (x ∷ xs) ys p q = (p.0, no_end-append xs ys p.1 q)

pub no_bytes : (held : List ℕ) → length held ≡ 0 → held ≡ []
no_bytes [] none = refl
no_bytes (byte ∷ held) none = absurd (omega arith)

too_long_is_calm : end.TooLong ≡ end.Lost → ⊥
too_long_is_calm same = absurd (cc (same))

request_is_calm : end.Request ≡ end.Lost → ⊥
request_is_calm same = absurd (cc (same))

ended_is_calm : end.Ended ≡ end.Lost → ⊥
ended_is_calm same = absurd (cc (same))

follows_is_calm : (number : ℕ) → end.Follows number ≡ end.Lost → ⊥
follows_is_calm number same = absurd (cc (same))

module _ {S : Type 0} (Replies : S → List ℕ → Reply → S → Type 0) where
  in_turn-snoc : (before mid after : S) (xs : List Exchange) (x : Exchange) → InTurn Replies before xs mid → IsExchange Replies mid x after
      → InTurn Replies before (xs ++ x ∷ []) after
  in_turn-snoc before mid after [] x turns one = (after, subst (λ (s : S). IsExchange Replies s x after) turns one, refl)
  in_turn-snoc before mid after (y ∷ xs) x turns one = (turns.0, turns.1, in_turn-snoc turns.0 mid after xs x turns.2 one)

  -- nothing was read yet
  pub begun : (before : S) (old : Told) → Serving Replies before before old old [] []
  begun before old = record {
    exchanges = [];
    each = refl;
    all_go_on = λ k d l. absurd (omega (arith, l));
    is_line = record { no_end = tt; short = omega arith };
    told = λ i. record old { taken = sym (append-nil old.taken) i; written = sym (append-nil old.written) i };
  }

  -- a piece is read
  pub reads_on : (before after : S) (old now new : Told) (held piece : List ℕ) → Serving Replies before after old now held []
      → new ≡ has_read now piece → Serving Replies before after old new held piece
  reads_on before after old now new held piece s read = record {
    exchanges = s.exchanges;
    each = s.each;
    all_go_on = s.all_go_on;
    is_line = s.is_line;
    told = read ∙ ap (λ (t : Told). has_read t piece) s.told ∙ read_behind old s.exchanges held piece;
  }

  -- a byte of a line
  pub holds_on : (before after : S) (old now : Told) (held longer more : List ℕ) (byte : ℕ) → Serving Replies before after old now held (byte ∷ more)
      → (byte == 10) ≡ false → length held < 4096 → longer ≡ held ++ byte ∷ [] → Serving Replies before after old now longer more
  holds_on before after old now held longer more byte s other short is = subst (λ (l : List ℕ). Serving Replies before after old now l more) (sym is) (record {
    exchanges = s.exchanges;
    each = s.each;
    all_go_on = s.all_go_on;
    is_line = record {
      no_end = no_end-append held (byte ∷ []) s.is_line.no_end (other, tt);
      short = (let n : length (held ++ byte ∷ []) ≡ length held + 1 = length-append held (byte ∷ []) in omega arith);
    };
    told = s.told ∙ ap (exchanged old s.exchanges) (sym (append_assoc held (byte ∷ []) more));
  })

  -- a line was answered
  pub answers_on : (before mid after : S) (old now new : Told) (held more : List ℕ) → Serving Replies before mid old now held (10 ∷ more) → GoesOn held
      → Says (λ (said : Reply). Replies mid held said after) now new → Serving Replies before after old new [] more
  answers_on before mid after old now new held more s ours said =
      let x : Exchange = record { asked = held; reply = said.reply } in
      let is : IsExchange Replies mid x after = record { is_line = s.is_line; replied = said.fits } in
      record {
        exchanges = s.exchanges ++ x ∷ [];
        each = in_turn-snoc before mid after s.exchanges x s.each is;
        all_go_on = All-append (λ y. GoesOn y.asked) s.exchanges (x ∷ []) s.all_go_on (only x ours);
        is_line = record { no_end = tt; short = omega arith };
        told = said.wrote ∙ ap (λ (t : Told). has_written t (line (reply_text said.reply))) s.told ∙ sym (one_more old s.exchanges x more);
      }
    where
      only : (x : Exchange) → GoesOn x.asked → AllGoOn (x ∷ [])
      only x none zero d l = none
      only x none (suc k) d l = absurd (omega (arith, l))

  -- its answer wasn't written
  pub answer_lost : (before mid after : S) (old now new : Told) (held more : List ℕ) → Serving Replies before mid old now held (10 ∷ more)
      → FailsToSay (λ (said : Reply). Replies mid held said after) now new → LosesReplies Replies before after old new
  answer_lost before mid after old now new held more s said = record {
    unsaid = said.broke.unsaid;
    few = said.broke.few;
    would = inl (record {
      exchanges = s.exchanges;
      rest = held ++ 10 ∷ more;
      between = mid;
      each = s.each;
      all_go_on = s.all_go_on;
      ends = inr (now, said.reply, inl (held, more, sym (append_assoc held (10 ∷ []) more), record { is_line = s.is_line; replied = said.fits }, s.told), said.broke.broke);
    });
  }

  -- the same, where the byte was a 10 and the line that was answered the one that was held
  pub ends_line : (before mid after : S) (old now new : Told) (held asked left more : List ℕ) (byte : ℕ)
      → Serving Replies before mid old now held (byte ∷ more) → byte ≡ 10 → asked ≡ held → left ≡ [] → GoesOn held
      → Says (λ (said : Reply). Replies mid asked said after) now new → Serving Replies before after old new left more
  ends_line before mid after old now new held asked left more byte s is same none ours said =
      subst (λ (l : List ℕ). Serving Replies before after old new l more) (sym none)
      (answers_on before mid after old now new held more (subst (λ (b : ℕ). Serving Replies before mid old now held (b ∷ more)) is s) ours
      (subst (λ (l : List ℕ). Says (λ (said : Reply). Replies mid l said after) now new) same said))

  pub ends_line_lost : (before mid after : S) (old now new : Told) (held asked more : List ℕ) (byte : ℕ)
      → Serving Replies before mid old now held (byte ∷ more) → byte ≡ 10 → asked ≡ held
      → FailsToSay (λ (said : Reply). Replies mid asked said after) now new → LosesReplies Replies before after old new
  ends_line_lost before mid after old now new held asked more byte s is same said =
      answer_lost before mid after old now new held more (subst (λ (b : ℕ). Serving Replies before mid old now held (b ∷ more)) is s)
      (subst (λ (l : List ℕ). FailsToSay (λ (said : Reply). Replies mid l said after) now new) same said)

  is_too_long : (held more : List ℕ) (byte : ℕ) → IsLine held → (byte == 10) ≡ false → 4096 ≤ length held → IsTooLong (held ++ byte ∷ more)
  is_too_long held more byte is other long = record {
    front = held ++ byte ∷ [];
    more = more;
    whole = sym (append_assoc held (byte ∷ []) more);
    no_end = no_end-append held (byte ∷ []) is.no_end (other, tt);
    long = (let n : length (held ++ byte ∷ []) ≡ length held + 1 = length-append held (byte ∷ []) in let s = is.short in omega arith);
  }

  -- a line ends the session, for a cause that is answered as a bad line
  refused : (before after : S) (old now new : Told) (kept held more : List ℕ) (why how : DeskEnd) → (s : Serving Replies before after old now held more)
      → (why ≡ end.Lost → ⊥) → IsTooLong (held ++ more) ⊎ BeginsRequest (held ++ more)
      → (has_written new kept ≡ has_written (exchanged old s.exchanges (held ++ more)) (line (reply_text BadLine))
      → EndsBy Replies after (exchanged old s.exchanges (held ++ more)) (held ++ more) (has_written new kept) why after)
      → Refuses now new kept why how → Leaves Replies before after old new kept how
  refused before after old now new kept held more why how s calm cause ends (inl done) = subst (λ (w : DeskEnd). Leaves Replies before after old new kept w) (sym done.0) (inl (
    calm,
    record {
      exchanges = s.exchanges;
      rest = held ++ more;
      between = after;
      each = s.each;
      all_go_on = s.all_go_on;
      ends = ends (done.1 ∙ ap (λ (t : Told). has_written t (line (reply_text BadLine))) s.told);
    },
  ))
  refused before after old now new kept held more why how s calm cause ends (inr broke) = inr (
    broke.0,
    record {
      unsaid = broke.1.unsaid;
      few = broke.1.few;
      would = inl (record {
        exchanges = s.exchanges;
        rest = held ++ more;
        between = after;
        each = s.each;
        all_go_on = s.all_go_on;
        ends = inr (now, BadLine, inr (inl (cause, refl, refl, s.told)), broke.1.broke);
      });
    },
  )

  -- a line was too long
  pub too_long : (before after : S) (old now new : Told) (kept held more : List ℕ) (byte : ℕ) (how : DeskEnd) → Serving Replies before after old now held (byte ∷ more)
      → (byte == 10) ≡ false → 4096 ≤ length held → Refuses now new kept end.TooLong how → Leaves Replies before after old new kept how
  too_long before after old now new kept held more byte how s other long said =
      let is = is_too_long held more byte s.is_line other long in
      refused before after old now new kept held (byte ∷ more) end.TooLong how s too_long_is_calm (inl is) (λ wrote. (is, refl, wrote)) said

  -- a line was one of a browser
  pub is_foreign : (before after : S) (old now new : Told) (kept held asked more : List ℕ) (byte : ℕ) (how : DeskEnd) → Serving Replies before after old now held (byte ∷ more)
      → byte ≡ 10 → asked ≡ held → IsOfBrowser asked → Refuses now new kept end.Request how → Leaves Replies before after old new kept how
  is_foreign before after old now new kept held asked more byte how s is same request said =
      let begins : BeginsRequest (held ++ byte ∷ more) = record {
        asked = held;
        more = more;
        whole = ap (λ (b : ℕ). held ++ b ∷ more) is ∙ sym (append_assoc held (10 ∷ []) more);
        is_line = s.is_line;
        browser = subst (λ (l : List ℕ). IsOfBrowser l) same request;
      } in
      refused before after old now new kept held (byte ∷ more) end.Request how s request_is_calm (inr begins) (λ wrote. (begins, refl, wrote)) said

  -- a line was one that follows decisions
  pub followed : (before after : S) (old now : Told) (kept held asked more : List ℕ) (byte number : ℕ) → Serving Replies before after old (has_written now kept) held (byte ∷ more)
      → byte ≡ 10 → asked ≡ held → AsksToFollow asked number → Leaves Replies before after old now kept (end.Follows number)
  followed before after old now kept held asked more byte number s is same asks = inl (
    follows_is_calm number,
    record {
      exchanges = s.exchanges;
      rest = held ++ byte ∷ more;
      between = after;
      each = s.each;
      all_go_on = s.all_go_on;
      ends = (begins, refl, s.told);
    },
  )
    where
      begins : BeginsToFollow (held ++ byte ∷ more) number
      begins = record {
        asked = held;
        more = more;
        whole = ap (λ (b : ℕ). held ++ b ∷ more) is ∙ sym (append_assoc held (10 ∷ []) more);
        is_line = s.is_line;
        follows = subst (λ (l : List ℕ). AsksToFollow l number) same asks;
      }

  -- a read failed, or the write of what was held before it
  pub read_lost : (before after : S) (old now new : Told) (held unsaid : List ℕ) → Serving Replies before after old now held []
      → length unsaid ≤ 4096 → has_written new unsaid ≡ has_failed now → LosesReplies Replies before after old new
  read_lost before after old now new held unsaid s few failed = record {
    unsaid = unsaid;
    few = few;
    would = inl (record {
      exchanges = s.exchanges;
      rest = held;
      between = after;
      each = s.each;
      all_go_on = s.all_go_on;
      ends = inl (s.is_line, refl, failed ∙ ap has_failed (s.told ∙ ap (exchanged old s.exchanges) (append-nil held)));
    });
  }

  -- the input ended, and no line was held
  pub ended : (before after : S) (old now new : Told) (kept held : List ℕ) → Serving Replies before after old now held []
      → held ≡ [] → has_written new kept ≡ has_ended now → Leaves Replies before after old new kept end.Ended
  ended before after old now new kept held s none over = inl (
    ended_is_calm,
    record {
      exchanges = s.exchanges;
      rest = [];
      between = after;
      each = s.each;
      all_go_on = s.all_go_on;
      ends = inl (refl, refl, over ∙ ap has_ended (s.told ∙ ap (λ (l : List ℕ). exchanged old s.exchanges (l ++ [])) none));
    },
  )

  ended_at : (before after : S) (old now told : Told) (held : List ℕ) → (s : Serving Replies before after old now held [])
      → told ≡ has_ended now → told ≡ has_ended (exchanged old s.exchanges held)
  ended_at before after old now told held s over = over ∙ ap has_ended (s.told ∙ ap (exchanged old s.exchanges) (append-nil held))

  -- the input ended, and the line that was held was answered
  pub ended_by_line : (before mid after : S) (old now told new : Told) (kept held : List ℕ) → Serving Replies before mid old now held []
      → 0 < length held → told ≡ has_ended now → Says (λ (said : Reply). Replies mid held said after) told (has_written new kept)
      → Leaves Replies before after old new kept end.Ended
  ended_by_line before mid after old now told new kept held s some over said = inl (
    ended_is_calm,
    record {
      exchanges = s.exchanges;
      rest = held;
      between = mid;
      each = s.each;
      all_go_on = s.all_go_on;
      ends = inr (
        said.reply,
        (some, record { is_line = s.is_line; replied = said.fits }),
        said.wrote ∙ ap (λ (t : Told). has_written t (line (reply_text said.reply))) (ended_at before mid old now told held s over),
      );
    },
  )

  pub ended_lost : (before mid after : S) (old now told new : Told) (held : List ℕ) → Serving Replies before mid old now held []
      → 0 < length held → told ≡ has_ended now → FailsToSay (λ (said : Reply). Replies mid held said after) told new → LosesReplies Replies before after old new
  ended_lost before mid after old now told new held s some over said = record {
    unsaid = said.broke.unsaid;
    few = said.broke.few;
    would = inl (record {
      exchanges = s.exchanges;
      rest = held;
      between = mid;
      each = s.each;
      all_go_on = s.all_go_on;
      ends = inr (told, said.reply, inr (inr ((some, record { is_line = s.is_line; replied = said.fits }), ended_at before mid old now told held s over)), said.broke.broke);
    });
  }

  came : (before after : S) (old now new : Told) (kept : List ℕ) (why how : DeskEnd) → Serves Replies before after old (has_written now kept) why
      → IsLeft (has_written now kept) new why how → ServesTogether Replies before after old new how
  came before after old now new kept why how serves (inl written) =
      inl (subst (λ (w : DeskEnd). Serves Replies before after old new w) (sym written.0)
      (subst (λ (t : Told). Serves Replies before after old t why) (sym written.1) serves))
  came before after old now new kept why how serves (inr lost) = inr (
    lost.0,
    record {
      unsaid = lost.1.unsaid;
      few = lost.1.few;
      would = inr (has_written now kept, why, serves, nothing_broke (has_written now kept) (has_written new lost.1.unsaid) lost.1.broke);
    },
  )

  -- the session comes to its end: what was held was written, or that failed
  pub left : (before after : S) (old now new : Told) (kept : List ℕ) (why how : DeskEnd) → Leaves Replies before after old now kept why
      → (why ≡ end.Lost → (how ≡ end.Lost) × (new ≡ now)) → ((why ≡ end.Lost → ⊥) → IsLeft (has_written now kept) new why how)
      → ServesTogether Replies before after old new how
  left before after old now new kept why how (inl calm) lost over = came before after old now new kept why how calm.1 (over calm.0)
  left before after old now new kept why how (inr gone) lost over =
      let same = lost gone.0 in
      inr (same.0, subst (λ (t : Told). LosesReplies Replies before after old t) (sym same.1) gone.1)
