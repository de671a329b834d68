use Rattle.std.proofs.Common.{◌≡◌, ◌<◌, ◌++◌, ◌+◌, ◌-◌, List, ℕ, sym, subst, arith, string_bytes, rules}
use Rattle.client.specs.Readings.{first_word}
use Rattle.gateway.specs.Answers.{word_item, word_items}
use Rattle.gateway.specs.Watches.{words_on}
use Rattle.gateway.proofs.Items.{items_more}
use Rattle.gateway.proofs.answers.word_items.Goals as goal

pub loop-member-preserved : goal.loop-member-preserved
loop-member-preserved c = λ heard watches from.
    let less : c.loop-member.member < c.args.n = search rules in
    let few : c.loop-member.member < 64 = omega arith in
    let item : string_bytes c.push_str.new.self ≡ string_bytes c.loop-member.text ++ word_item c.loop-member.member c.word_of.result =
    search (rules, c.in_ok-push_str.ensures.bytes, c.in_ok-item.ensures, c.as_str.ensures.value) in
    subst (λ (text : List ℕ). text ++ word_items (first_word (words_on c.args.question heard)) (c.loop-member.member + 1) (c.args.n - (c.loop-member.member + 1))
    ≡ word_items (first_word (words_on c.args.question heard)) 0 c.args.n) (sym item)
    (items_more (first_word (words_on c.args.question heard)) c.word_of.result c.loop-member.member c.args.n (string_bytes c.loop-member.text)
    (word_items (first_word (words_on c.args.question heard)) 0 c.args.n) less (c.word_of.ensures.told heard watches from few) (c.loop-member.invariant heard watches from))
