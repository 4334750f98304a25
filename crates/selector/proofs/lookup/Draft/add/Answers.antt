use Rattle.std.proofs.Common.{◌&&◌, ◌||◌, ap, ◌∙◌}
use Rattle.selector.specs.Bounds.{path_value}
use Rattle.selector.specs.Lookup.{comparison_meets, decides, set_has}
use Rattle.selector.proofs.Decided.{none_added, test_added}
use Rattle.selector.proofs.lookup.Draft.add.Goals as goal

pub returns-then-not-added : goal.returns-then-not-added
returns-then-not-added c = λ current.
    let before = set_has c.args.self.now.values in
    none_added c.args.self.now.missing before _
    (λ v. c.in_ok-added.ensures v ∙ ap (λ added. (added && decides c.args.operator (comparison_meets c.args.comparison v)) || before v) c.if-not-added.true)
    (path_value c.args.self.now.path current)

pub returns : goal.returns
returns c = λ current.
    let before = set_has c.args.self.now.values in
    test_added c.args.self.now.missing _ c.args.operator before _ (comparison_meets c.args.comparison)
    (c.is_either-self.ensures ∙ ap (λ b. b || c.args.self.now.missing) c.decides.ensures)
    (λ v. c.in_ok-added.ensures v ∙ ap (λ added. (added && decides c.args.operator (comparison_meets c.args.comparison v)) || before v) c.if-not-added.false)
    (path_value c.args.self.now.path current)
