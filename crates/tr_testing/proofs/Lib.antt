mod Rationing
