use Rattle.hib_flat.proofs.Pieces.{header_put}
use Rattle.hib_flat.proofs.lines.put_header.Goals as goal

pub returns : goal.returns
returns c =
    header_put c.args.script.now c.args.names.now c.args.out.now.items c.extend_from_slice.new.self.items c.put_cell_names.new.out.items c.extend_from_slice-2.new.self.items c.requires c.in_ok-extend_from_slice.ensures.items
    c.in_ok-put_cell_names.ensures c.in_ok-extend_from_slice-2.ensures.items
