-- Rotated to the left and then cut, the entries are those behind the first `count`.
use Rattle.std.proofs.Common.{rules, ◌≡◌, ◌-◌, ap, drop, length, sym, ◌∙◌}
use Rattle.std.proofs.lemmas.List.{drop-map}
use Rattle.pkimport.specs.Private.Entries.{entry_asked}
use Rattle.pkimport.proofs.NotedImports.{are_left, cut_off}
use Rattle.pkimport.proofs.import_table.ImportTable.skip.Goals as goal

pub invariant_of-self-2 : goal.invariant_of-self-2
invariant_of-self-2 c =
    let es = c.self.inside.entries.items in
    let all : c.len-2.result ≡ length es = search rules in
    let cut : c.truncate.new.self.items ≡ drop c.args.count es = c.truncate.ensures.items
    ∙ cut_off c.args.count _ es c.rotate_left.new.self.items
    (ap (λ n. n - c.args.count) all) c.rotate_left.ensures.items in
    rw cut (are_left (length c.self.inside.texts) (length c.self.inside.written) c.args.count es
    c.self.invariant)

pub returns : goal.returns
returns c =
    let es = c.self.inside.entries.items in
    let all : c.len-2.result ≡ length es = search rules in
    let cut : c.truncate.new.self.items ≡ drop c.args.count es = c.truncate.ensures.items
    ∙ cut_off c.args.count _ es c.rotate_left.new.self.items
    (ap (λ n. n - c.args.count) all) c.rotate_left.ensures.items in
    rw (← c.self.view_is, cut) (λ i. record {
      texts = c.self.inside.texts;
      asked =
          sym (drop-map (entry_asked c.self.inside.texts c.self.inside.written) c.args.count es) i;
    })
