use Rattle.facets.proofs.Drawing.corner.Goals as goal

pub get_vec-requires : goal.get_vec-requires
get_vec-requires c = c.args.self.now.drawn c.args.j c.requires
